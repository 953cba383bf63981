-- The run of bytes of a class at the front of a text.
use Rattle.std.proofs.Common.{◌≡◌, ℕ, suc, ◌+◌, Bool, true, false, List, [], ◌∷◌, ◌++◌, length, take, drop, refl, ap, arith, inl, inr}
use Rattle.std.specs.List.{prefix_len, list_all}
use Rattle.std.proofs.lemmas.Bool.{cases_Bool, and_parts}
use Rattle.gil_lexer.specs.Bytes.{begins}

pub take_one_more : (b : ℕ) (bs : List ℕ) (n : ℕ) → take (1 + n) (b ∷ bs) ≡ b ∷ take n bs
take_one_more b bs n = let e : 1 + n ≡ suc n = omega arith in ap (λ k. take k (b ∷ bs)) e

pub drop_one_more : (b : ℕ) (bs : List ℕ) (n : ℕ) → drop (1 + n) (b ∷ bs) ≡ drop n bs
drop_one_more b bs n = let e : 1 + n ≡ suc n = omega arith in ap (λ k. drop k (b ∷ bs)) e

-- each byte of the run is of the class
pub run_passes : (p : ℕ → Bool) (bs : List ℕ) → list_all p (take (prefix_len p bs) bs) ≡ true
run_passes p [] = refl
run_passes p (b ∷ bs) =
    elim (cases_Bool (p b)) [
      | inl passes ↦ rw (passes, take_one_more b bs (prefix_len p bs), passes) (run_passes p bs)
      | inr fails ↦ rw fails refl
    ]

-- the byte behind the run isn't
pub run_stops : (p : ℕ → Bool) (bs : List ℕ) → begins p (drop (prefix_len p bs) bs) ≡ false
run_stops p [] = refl
run_stops p (b ∷ bs) =
    elim (cases_Bool (p b)) [
      | inl passes ↦ rw (passes, drop_one_more b bs (prefix_len p bs)) (run_stops p bs)
      | inr fails ↦ rw (fails, fails) refl
    ]

-- a run is all of its bytes, where another byte follows
pub run_is : (p : ℕ → Bool) (bs rest : List ℕ) → list_all p bs ≡ true → begins p rest ≡ false → prefix_len p (bs ++ rest) ≡ length bs
run_is p [] [] all stops = refl
run_is p [] (b ∷ rest) all stops = rw stops refl
run_is p (b ∷ bs) rest all stops =
    let parts = and_parts (p b) (list_all p bs) all in
    let more = run_is p bs rest parts.1 stops in
    rw (parts.0, more) (omega arith)

pub begins_append : (p : ℕ → Bool) (bs rest : List ℕ) → begins p bs ≡ true → begins p (bs ++ rest) ≡ true
begins_append p [] rest e = absurd (cc e)
begins_append p (b ∷ bs) rest e = e
