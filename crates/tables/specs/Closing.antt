-- What is left of a list once it has closed up. Assumes nothing.
use Rattle.std.specs.Prelude.{◌≡◌, Bool, if◌then◌else◌, List, [], ◌∷◌, ◌++◌}
use Rattle.std.specs.Fn.{FnReturns}
use denote.Param.Members.{Shared}
use denote.Ref.{Bor}

-- each item in turn is asked about with the ones before it that stay: `Answers` says what may be answered, and `all` is what stays
abbrev pub StayInTurn : {T : Type 0} → (List T → T → Bool → Type 0) → List T → List T → List T → Type 0
StayInTurn Answers kept [] all = all ≡ kept
StayInTurn Answers kept (x ∷ xs) all = (stays : Bool) × Answers kept x stays × StayInTurn Answers (if stays then kept ++ x ∷ [] else kept) xs all

-- the answer of a closure, asked at references to both
pub record Answered {F T : Type 0} (g : Shared F (Bor (List T) × (Bor T × Unit {0})) Bool) (f : F) (kept : List T) (x : T) (answer : Bool) : Type 0 where
  pub front : Bor (List T)
  pub item : Bor T
  pub shows : (front.now ≡ kept) × (item.now ≡ x)
  pub says : FnReturns g f (front, (item, tt)) answer

-- what stays of the list by the answers of a closure
abbrev pub IsClosedUp : {F T : Type 0} → Shared F (Bor (List T) × (Bor T × Unit {0})) Bool → F → List T → List T → Type 0
IsClosedUp g f items all = StayInTurn (Answered g f) [] items all
