-- What holds of each two elements of a list, the earlier first.
use Rattle.std.proofs.Common.{◌≡◌, Bool, List, [], ◌∷◌, ◌++◌, map, filter, refl, ap, ◌∙◌}
use Rattle.std.specs.List.{AllByRecursion as All}
use Rattle.std.proofs.lemmas.Bool.{cond_both, cond-true, cond-false}
use Rattle.rules.proofs.Each.{All-weaker, All-push, All-filter, All-map, all_both}

abbrev pub Pairs : {G : Type 0} → (G → G → Type 0) → List G → Type 0
Pairs Q [] = Unit {0}
Pairs Q (g ∷ gs) = All (Q g) gs × Pairs Q gs

-- where S holds of each
pub pairs_where : {G : Type 0} {S : G → Type 0} {Q Z : G → G → Type 0} → ((g m : G) → S g → S m → Q g m → Z g m) → (gs : List G) → All S gs → Pairs Q gs → Pairs Z gs
pairs_where f [] s q = tt
pairs_where f (g ∷ gs) s q = (all_both (λ m. f g m s.0) gs s.1 q.0, pairs_where f gs s.1 q.1)

pub pairs_weaker : {G : Type 0} {Q Z : G → G → Type 0} → ((g m : G) → Q g m → Z g m) → (gs : List G) → Pairs Q gs → Pairs Z gs
pairs_weaker f [] q = tt
pairs_weaker f (g ∷ gs) q = (All-weaker _ _ (f g) gs q.0, pairs_weaker f gs q.1)

pub pairs_push : {G : Type 0} (Q : G → G → Type 0) (gs : List G) (m : G) → Pairs Q gs → All (λ g. Q g m) gs → Pairs Q (gs ++ (m ∷ []))
pairs_push Q [] m p a = (tt, tt)
pairs_push Q (g ∷ gs) m p a = (All-push _ gs m p.0 a.0, pairs_push _ gs m p.1 a.1)

pub pairs_kept : {G : Type 0} (Q : G → G → Type 0) (t : G → Bool) (gs : List G) → Pairs Q gs → Pairs Q (filter t gs)
pairs_kept Q t [] p = tt
pairs_kept Q t (g ∷ gs) p = let on = pairs_kept Q t gs p.1 in cond_both (t g) (g ∷ filter t gs) (filter t gs) (Pairs Q) (λ y. (All-filter t _ gs p.0, on)) (λ n. on)

-- to filter what a function gives is to filter by what it gives
pub filter_map_swap : {F G : Type 0} (f : F → G) (t : G → Bool) (xs : List F) → filter t (map f xs) ≡ map f (filter (λ x. t (f x)) xs)
filter_map_swap f t [] = refl
filter_map_swap f t (x ∷ xs) =
    cond_both (t (f x)) (x ∷ filter (λ y. t (f y)) xs) (filter (λ y. t (f y)) xs) (λ l. filter t (map f (x ∷ xs)) ≡ map f l)
    (λ y. cond-true _ _ _ y ∙ ap (λ l. f x ∷ l) (filter_map_swap f t xs)) (λ n. cond-false _ _ _ n ∙ filter_map_swap f t xs)

pub pairs_map : {F G : Type 0} (Q : G → G → Type 0) (f : F → G) (gs : List F) → Pairs (λ g m. Q (f g) (f m)) gs → Pairs Q (map f gs)
pairs_map Q f [] p = tt
pairs_map Q f (g ∷ gs) p = (All-map _ f gs p.0, pairs_map _ f gs p.1)

-- what holds of each two of a table's elements holds of each pair of them, both ways round
pub pairs_from : {G : Type 0} (Z : G → G → Type 0) (gs : List G) → All (λ g. All (Z g) gs) gs → Pairs (λ g m. Z g m × Z m g) gs
pairs_from Z [] a = tt
pairs_from Z (g ∷ gs) a = (all_both (λ m u w. (u, w.0)) gs a.0.1 a.1, pairs_from _ gs (All-weaker _ _ (λ m w. w.1) gs a.1))

pub pairs_and : {G : Type 0} (Q Z : G → G → Type 0) (gs : List G) → Pairs Q gs → Pairs Z gs → Pairs (λ g m. Q g m × Z g m) gs
pairs_and Q Z [] p q = tt
pairs_and Q Z (g ∷ gs) p q = (all_both (λ m u w. (u, w)) gs p.0 q.0, pairs_and _ _ gs p.1 q.1)
