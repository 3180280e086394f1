-- What holds of each element of a list, by recursion on the list.
use Rattle.std.proofs.Common.{◌≡◌, Bool, true, List, [], ◌∷◌, ◌++◌, map, filter}
use Rattle.std.specs.List.{AllByRecursion as All}
use Rattle.std.proofs.lemmas.Bool.{cond_both}

-- what holds of everything holds of each element
pub all_of : {X : Type 0} {P : X → Type 0} → ((x : X) → P x) → (xs : List X) → All P xs
all_of f [] = tt
all_of f (x ∷ xs) = (f x, all_of f xs)

pub all_both : {X : Type 0} {P Q S : X → Type 0} → ((x : X) → P x → Q x → S x) → (xs : List X) → All P xs → All Q xs → All S xs
all_both f [] p q = tt
all_both f (x ∷ xs) p q = (f x p.0 q.0, all_both f xs p.1 q.1)

module _ {X : Type 0} (P : X → Type 0) where
  pub All-weaker : (Q : X → Type 0) → ((x : X) → P x → Q x) → (xs : List X) → All P xs → All Q xs
  All-weaker Q f [] p = tt
  All-weaker Q f (x ∷ xs) p = (f x p.0, All-weaker Q f xs p.1)

  pub All-append : (xs ys : List X) → All P xs → All P ys → All P (xs ++ ys)
  All-append [] ys p q = q
  All-append (x ∷ xs) ys p q = (p.0, All-append xs ys p.1 q)

  pub All-push : (xs : List X) (x : X) → All P xs → P x → All P (xs ++ x ∷ [])
  All-push xs x p here = All-append xs (x ∷ []) p (here, tt)

  pub All-map : {Y : Type 0} (f : Y → X) (ys : List Y) → All (λ y. P (f y)) ys → All P (map f ys)
  All-map f [] p = tt
  All-map f (y ∷ ys) p = (p.0, All-map f ys p.1)

  -- of what a test keeps
  pub all_passed : (t : X → Bool) (xs : List X) → All (λ x. t x ≡ true → P x) xs → All P (filter t xs)
  all_passed t [] p = tt
  all_passed t (x ∷ xs) p = let on = all_passed t xs p.1 in cond_both (t x) (x ∷ filter t xs) (filter t xs) (All P) (λ y. (p.0 y, on)) (λ n. on)

pub All-filter : {X : Type 0} (t : X → Bool) (P : X → Type 0) (xs : List X) → All P xs → All P (filter t xs)
All-filter t P xs p = all_passed P t xs (All-weaker P _ (λ x h y. h) xs p)

pub filter_passes : {X : Type 0} (t : X → Bool) (xs : List X) → All (λ x. t x ≡ true) (filter t xs)
filter_passes t xs = all_passed _ t xs (all_of (λ x y. y) xs)
