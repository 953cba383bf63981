-- What a test or an option that is known says.
use Rattle.std.proofs.Common.{◌≡◌, Result, Ok, Err, IfOk, IsTrue, Bool, true, false, subst}

-- a test that is false doesn't hold
pub not_true : (b : Bool) → b ≡ false → IsTrue b → ⊥
not_true true e h = cc
not_true false e h = cc

-- what is said of an answer that is known
pub if_ok_known : {T E : Type 0} (r : Result T E) (x : T) (P : T → Type 0) → r ≡ Ok x → IfOk r P → P x
if_ok_known r x P is h = subst (λ q. IfOk q P) is h

-- what is said of an answer that is so twice
pub if_ok_both : {T E : Type 0} (r : Result T E) (P Q R : T → Type 0) → ((x : T) → P x → Q x → R x) → IfOk r P → IfOk r Q → IfOk r R
if_ok_both (Ok x) P Q R f p q = f x p q
if_ok_both (Err e) P Q R f p q = tt
