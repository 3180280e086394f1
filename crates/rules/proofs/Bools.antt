-- A test that another implies, and a test that is one of two others.
use Rattle.std.proofs.Common.{◌≡◌, Bool, true, false, not, ◌&&◌, ◌||◌, refl}

-- a test that another implies
pub and_implied : (k b : Bool) → (b ≡ true → k ≡ true) → (k && b) ≡ b
and_implied false true f = f refl
and_implied k b f = refl

-- a test that is one of two others, which exclude each other
pub data Parts : Bool → Bool → Bool → Type 0 where
  first : Parts true true false
  second : Parts true false true
  neither : Parts false false false

pub parts_swap : {t a b : Bool} → Parts t a b → Parts t b a
parts_swap first = second
parts_swap second = first
parts_swap neither = neither

pub parts_first : (t a b : Bool) → t ≡ true → a ≡ true → b ≡ false → Parts t a b
parts_first true true false p q r = first
parts_first t a b p q r = cc

pub parts_alone : (t : Bool) → Parts t t false
parts_alone true = first
parts_alone false = neither

pub parts_or : (a b : Bool) → (a ≡ true → b ≡ true → ⊥) → Parts (a || b) a b
parts_or true true d = absurd (d refl refl)
parts_or true false d = first
parts_or false true d = second
parts_or false false d = neither

pub parts_rest : (t a : Bool) → (a ≡ true → t ≡ true) → Parts t a (t && not a)
parts_rest true true f = first
parts_rest true false f = second
parts_rest false true f = cc (f refl)
parts_rest false false f = neither
