-- Lists of numbers: which number is among them, and whether they fall.
use Rattle.std.proofs.Common.{◌≡◌, ℕ, ◌<◌, true, eqb, ◌⊎◌, List, [], ◌∷◌, sym, refl, subst, inl, inr}
use Rattle.std.specs.List.{AllByRecursion as All}
use Rattle.std.proofs.lemmas.Bool.{eqb-true, eq-eqb, or_cases, or_left, or_right}
use Rattle.rules.specs.Entries.{is_among}

pub among_self : (x : ℕ) (ys : List ℕ) → is_among (x ∷ ys) x ≡ true
among_self x ys = or_left (eqb x x) (is_among ys x) (eq-eqb x x refl)

pub among_more : (x y : ℕ) (ys : List ℕ) → is_among ys x ≡ true → is_among (y ∷ ys) x ≡ true
among_more x y ys h = or_right (eqb x y) (is_among ys x) h

pub among_cases : (x y : ℕ) (ys : List ℕ) → is_among (y ∷ ys) x ≡ true → (x ≡ y) ⊎ (is_among ys x ≡ true)
among_cases x y ys h = elim (or_cases (eqb x y) (is_among ys x) h) [ inl e ↦ inl (eqb-true x y e) | inr e ↦ inr e ]

pub all_from_among : (Q : ℕ → Type 0) (xs : List ℕ) → ((y : ℕ) → is_among xs y ≡ true → Q y) → All Q xs
all_from_among Q [] f = tt
all_from_among Q (x ∷ xs) f = (f x (among_self x xs), all_from_among Q xs (λ y h. f y (among_more y x xs h)))

pub among_all : (Q : ℕ → Type 0) (xs : List ℕ) → All Q xs → (y : ℕ) → is_among xs y ≡ true → Q y
among_all Q [] a y h = cc
among_all Q (x ∷ xs) a y h = elim (among_cases y x xs h) [ inl s ↦ subst Q (sym s) a.0 | inr k ↦ among_all Q xs a.1 y k ]

-- each number is above all that follow it
abbrev pub Falls : List ℕ → Type 0
Falls [] = Unit {0}
Falls (x ∷ xs) = All (λ y. y < x) xs × Falls xs
