-- What crosses may be taken in either order: lists that differ by such exchanges, and what they share.
use Rattle.std.proofs.Common.{◌≡◌, List, [], ◌∷◌, ◌++◌, fold, refl, ap, ◌∙◌, subst}
use Rattle.std.specs.List.{AllByRecursion as All}
use Rattle.rules.specs.FairCopy.{EachInTurn}

-- one list from the other by exchanges of neighbours that cross
pub data Same {X : Type 0} (Cross : X → X → Type 0) : List X → List X → Type 0 where
  same_nil : Same Cross [] []
  same_cons : (x : X) {xs ys : List X} → Same Cross xs ys → Same Cross (x ∷ xs) (x ∷ ys)
  same_swap : {x y : X} (xs : List X) → Cross x y → Same Cross (x ∷ y ∷ xs) (y ∷ x ∷ xs)
  same_trans : {xs ys zs : List X} → Same Cross xs ys → Same Cross ys zs → Same Cross xs zs

module _ {X : Type 0} {Cross : X → X → Type 0} where
  pub same_refl : (xs : List X) → Same Cross xs xs
  same_refl [] = same_nil
  same_refl (x ∷ xs) = same_cons x (same_refl xs)

  pub same_left : {xs ys : List X} (zs : List X) → Same Cross xs ys → Same Cross (zs ++ xs) (zs ++ ys)
  same_left [] s = s
  same_left (z ∷ zs) s = same_cons z (same_left zs s)

  pub same_right : {xs ys : List X} (zs : List X) → Same Cross xs ys → Same Cross (xs ++ zs) (ys ++ zs)
  same_right zs same_nil = same_refl zs
  same_right zs (same_cons x s) = same_cons x (same_right zs s)
  same_right zs (same_swap xs c) = same_swap (xs ++ zs) c
  same_right zs (same_trans s t) = same_trans (same_right zs s) (same_right zs t)

  pub same_sym : ((x y : X) → Cross x y → Cross y x) → {xs ys : List X} → Same Cross xs ys → Same Cross ys xs
  same_sym f same_nil = same_nil
  same_sym f (same_cons x s) = same_cons x (same_sym f s)
  same_sym f (same_swap {x} {y} xs c) = same_swap xs (f x y c)
  same_sym f (same_trans s t) = same_trans (same_sym f t) (same_sym f s)

  pub same_all : (P : X → Type 0) {xs ys : List X} → Same Cross xs ys → All P xs → All P ys
  same_all P same_nil h = tt
  same_all P (same_cons x s) h = (h.0, same_all P s h.1)
  same_all P (same_swap xs c) h = (h.1.0, (h.0, h.1.1))
  same_all P (same_trans s t) h = same_all P t (same_all P s h)

  -- what crosses all of xs goes past them
  pub same_past : (x : X) (xs ys : List X) → All (Cross x) xs → Same Cross (x ∷ (xs ++ ys)) (xs ++ (x ∷ ys))
  same_past x [] ys c = same_refl (x ∷ ys)
  same_past x (y ∷ xs) ys c = same_trans (same_swap (xs ++ ys) c.0) (same_cons y (same_past x xs ys c.1))

-- the crossing law, of things that are found right or not where they are taken
pub record Laws {V X : Type 0} (after : V → X → V) (Right : V → X → Type 0) (OkValue : V → Type 0) (OkItem : X → Type 0) (Cross : X → X → Type 0) : Type 0 where
  pub ok : (v : V) (x : X) → OkValue v → OkItem x → OkValue (after v x)
  pub symm : (x y : X) → Cross x y → Cross y x
  pub swap : (v : V) (x y : X) → OkValue v → OkItem x → OkItem y → Cross x y → after (after v x) y ≡ after (after v y) x
  pub later : (v : V) (x y : X) → OkValue v → OkItem x → OkItem y → Cross x y → Right v x → Right (after v y) x
  pub earlier : (v : V) (x y : X) → OkValue v → OkItem x → OkItem y → Cross x y → Right (after v y) x → Right v x

module _ {V X : Type 0} {after : V → X → V} {Right : V → X → Type 0} {OkValue : V → Type 0} {OkItem : X → Type 0} {Cross : X → X → Type 0} (laws : Laws after Right OkValue OkItem Cross) where
  pub right_front : (v : V) (xs ys : List X) → EachInTurn after Right v (xs ++ ys) → EachInTurn after Right v xs
  right_front v [] ys r = tt
  right_front v (x ∷ xs) ys r = (r.0, right_front (after v x) xs ys r.1)

  pub right_back : (v : V) (xs ys : List X) → EachInTurn after Right v (xs ++ ys) → EachInTurn after Right (fold after v xs) ys
  right_back v [] ys r = r
  right_back v (x ∷ xs) ys r = right_back (after v x) xs ys r.1

  pub right_append : (v : V) (xs ys : List X) → EachInTurn after Right v xs → EachInTurn after Right (fold after v xs) ys → EachInTurn after Right v (xs ++ ys)
  right_append v [] ys r t = t
  right_append v (x ∷ xs) ys r t = (r.0, right_append (after v x) xs ys r.1 t)

  pub stays_ok : (v : V) (xs : List X) → OkValue v → All OkItem xs → OkValue (fold after v xs)
  stays_ok v [] o os = o
  stays_ok v (x ∷ xs) o os = stays_ok (after v x) xs (laws.ok v x o os.0) os.1

  pub same_end : {xs ys : List X} → Same Cross xs ys → (v : V) → OkValue v → All OkItem xs → fold after v xs ≡ fold after v ys
  same_end same_nil v o os = refl
  same_end (same_cons x s) v o os = same_end s (after v x) (laws.ok v x o os.0) os.1
  same_end (same_swap {x} {y} xs c) v o os = ap (λ w. fold after w xs) (laws.swap v x y o os.0 os.1.0 c)
  same_end (same_trans s t) v o os = same_end s v o os ∙ same_end t v o (same_all OkItem s os)

  pub same_rightly : {xs ys : List X} → Same Cross xs ys → (v : V) → OkValue v → All OkItem xs → EachInTurn after Right v xs → EachInTurn after Right v ys
  same_rightly same_nil v o os r = tt
  same_rightly (same_cons x s) v o os r = (r.0, same_rightly s (after v x) (laws.ok v x o os.0) os.1 r.1)
  same_rightly (same_swap {x} {y} xs c) v o os r =
      let ox = os.0 in
      let oy = os.1.0 in (
        laws.earlier v y x o oy ox (laws.symm x y c) r.1.0,
        (
          laws.later v x y o ox oy c r.0,
          subst (λ w. EachInTurn after Right w xs) (laws.swap v x y o ox oy c) r.1.1,
        ),
      )
  same_rightly (same_trans s t) v o os r = same_rightly t v o (same_all OkItem s os) (same_rightly s v o os r)

  -- after one that they all cross, things are found right that were right before it
  pub past_one : (x : X) (ys : List X) (v : V) → OkValue v → OkItem x → All OkItem ys → All (Cross x) ys → EachInTurn after Right v ys → EachInTurn after Right (after v x) ys
  past_one x [] v o ox oys c r = tt
  past_one x (y ∷ ys) v o ox oys c r =
      let oy = oys.0 in (
        laws.later v y x o oy ox (laws.symm x y c.0) r.0,
        subst (λ w. EachInTurn after Right w ys) (laws.swap v y x o oy ox (laws.symm x y c.0))
            (past_one x ys (after v y) (laws.ok v y o oy) ox oys.1 c.1 r.1),
      )

  -- .. and after many
  pub past_all : (xs ys : List X) (v : V) → OkValue v → All OkItem xs → All OkItem ys → All (λ x. All (Cross x) ys) xs → EachInTurn after Right v ys → EachInTurn after Right (fold after v xs) ys
  past_all [] ys v o oxs oys c r = r
  past_all (x ∷ xs) ys v o oxs oys c r = past_all xs ys (after v x) (laws.ok v x o oxs.0) oxs.1 oys c.1 (past_one x ys v o oxs.0 oys c.0 r)
