-- A loop that closes a list up in place, and one turn of it.
use Rattle.std.proofs.Common.{refl, ap, ◌++◌, filter, append-nil, append_assoc, ◌≡◌, ℕ, ◌+◌, ◌<◌, ◌≤◌, Bool, true, false, List, [], ◌∷◌, length, get_or, take, drop, set, sym, ap₂, ◌∙◌, arith}
use Rattle.std.proofs.lemmas.List.{take_more_set, length-set, drop_more, drop-set-lt, length-append, length-drop, length-take-le, take-append-le}
use Rattle.std.proofs.lemmas.List.Elements.{filter-append}
use Rattle.std.proofs.lemmas.Grind.{drop_more_same}
use Rattle.std.specs.Borrow.{GName}
use Rattle.tables.specs.Tables.{Records}
use Rattle.tables.specs.Closing.{StayInTurn}

module _ {T : Type 0} (Answers : List T → T → Bool → Type 0) where
  -- k of the first i items stay and stand in front, the rest is as it was, and what stays after it stays of the whole
  pub record ClosingUp (was items : List T) (k i : ℕ) : Type 0 where
    pub front : k ≤ i
    pub long : length items ≡ length was
    pub rest : drop i items ≡ drop i was
    pub goes_on : (all : List T) → StayInTurn Answers (take k items) (drop i was) all → StayInTurn Answers [] was all

  module _ (was items : List T) (k i : ℕ) (at : ClosingUp was items k i) (x : T) (more : i < length was) (read : x ≡ get_or items i x) where
    further : drop (i + 1) items ≡ drop (i + 1) was
    further = drop_more_same items was i at.rest

    ahead : x ∷ drop (i + 1) was ≡ drop i was
    ahead = ap₂ ◌∷◌ read (sym further) ∙ sym (drop_more items i x (omega (arith, at.long))) ∙ at.rest

    -- an item that stays moves to the front
    pub stayed : Answers (take k items) x true → ClosingUp was (set items k x) (k + 1) (i + 1)
    stayed says =
        let in_front : k < i + 1 = omega (arith, at.front) in
        let has_room : k < length items = omega (arith, at.front, at.long) in
        record {
          front = omega arith;
          long = length-set items k x ∙ at.long;
          rest = drop-set-lt (i + 1) items k x in_front ∙ further;
          goes_on = λ all left. at.goes_on all (rw (← ahead) (true, says, rw (← take_more_set items k x has_room) left));
        }

    -- any other is passed over
    pub went : Answers (take k items) x false → ClosingUp was items k (i + 1)
    went says = record {
      front = omega (arith, at.front);
      long = at.long;
      rest = further;
      goes_on = λ all left. at.goes_on all (rw (← ahead) (false, says, left));
    }

-- ---- what stays of the whole

-- where an item stays just where it passes the test, after those before it that pass, what stays is what passes the test
module _ {T : Type 0} (Answers : List T → T → Bool → Type 0) (test : T → Bool) (whole : List T)
    (says : (front : List T) (x : T) (more : List T) (b : Bool) → whole ≡ front ++ x ∷ more → Answers (filter test front) x b → b ≡ test x) where
  from_front : (front more all : List T) → whole ≡ front ++ more → StayInTurn Answers (filter test front) more all → all ≡ filter test whole
  from_front front [] all is h = h ∙ ap (filter test) (sym (is ∙ append-nil front))
  from_front front (x ∷ more) all is (true, said, left) = from_front (front ++ x ∷ []) more all (is ∙ sym (append_assoc front (x ∷ []) more)) (rw (filter-append, ← says front x more true is said) left)
  from_front front (x ∷ more) all is (false, said, left) = from_front (front ++ x ∷ []) more all (is ∙ sym (append_assoc front (x ∷ []) more)) (rw (filter-append, ← says front x more false is said, append-nil) left)

  pub sifted : (all : List T) → StayInTurn Answers [] whole all → all ≡ filter test whole
  sifted all h = from_front [] whole all refl h

abbrev pub records : {T : Type 0} → List T → ℕ → GName → Records T
records standing room slice = record { standing = standing; room = room; slice = slice }

-- a table whose standing records have closed up, by what is left of them
pub closed_up : {T : Type 0} {left : List T} {slice : GName} (places items : List T) (filled k : ℕ) → filled ≤ length places → k ≤ length (take filled places) → length items ≡ length (take filled places) → take k items ≡ left
    → records (take k (items ++ drop filled places)) (length (items ++ drop filled places)) slice ≡ records left (length places) slice
closed_up {slice = slice} places items filled k fits bound size stand =
    ap₂ (λ s n. records s n slice) (take-append-le k items (drop filled places) (omega arith) ∙ stand) (omega (arith, length-append items (drop filled places), length-drop filled places, length-take-le filled places fits))
