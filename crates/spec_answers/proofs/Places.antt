-- The answers at places.
use Rattle.std.proofs.Common.{◌≡◌, ℕ, zero, suc, List, [], ◌∷◌, ◌++◌, map, length, slice_get, true, Some, None, refl, sym, ap, ◌∙◌, arith}
use Rattle.spec_dependencies.specs.declared.entries.Entry.{Entry}
use Rattle.spec_answers.specs.declared.answers.Examined.{Examined}
use Rattle.spec_answers.specs.declared.answers.SpecAnswer.{SpecAnswer}
use Rattle.spec_dependencies.specs.Settling.{AreNew, is_new}
use Rattle.spec_answers.specs.declared.answers.Finding.{Finding}
use Rattle.spec_answers.specs.Answering.{standing_of, entry_of, answer_of, answers_of}

module _ {C : Type 0} where
  -- one more, and the entry at its place
  pub one_more : (xs : List (Examined C)) (es : List Entry) (x : Examined C) (e : Entry) → slice_get es (length (answers_of xs es)) ≡ Some e
      → answers_of (xs ++ x ∷ []) es ≡ answers_of xs es ++ answer_of x e ∷ []
  one_more [] [] x e is = cc
  one_more [] (d ∷ es) x e is = let same : d ≡ e = cc in ap (λ (y : Entry). answer_of x y ∷ []) same
  one_more (y ∷ xs) [] x e is = cc
  one_more (y ∷ xs) (d ∷ es) x e is = ap (λ zs. answer_of y d ∷ zs) (one_more xs es x e is)

  pub none_more : (xs : List (Examined C)) (es : List Entry) (x : Examined C) → slice_get es (length (answers_of xs es)) ≡ None
      → answers_of (xs ++ x ∷ []) es ≡ answers_of xs es
  none_more [] [] x is = refl
  none_more [] (d ∷ es) x is = cc
  none_more (y ∷ xs) [] x is = refl
  none_more (y ∷ xs) (d ∷ es) x is = ap (λ zs. answer_of y d ∷ zs) (none_more xs es x is)

  pub entry_at : (xs : List (Examined C)) (k : ℕ) (x : Examined C) → slice_get xs k ≡ Some x → slice_get (map entry_of xs) k ≡ Some (entry_of x)
  entry_at [] k x is = cc
  entry_at (y ∷ xs) zero x is = let same : y ≡ x = cc in ap (λ (z : Examined C). Some (entry_of z)) same
  entry_at (y ∷ xs) (suc k) x is = entry_at xs k x is

  pub as_many_entries : (xs : List (Examined C)) → length (map entry_of xs) ≡ length xs
  as_many_entries [] = refl
  as_many_entries (x ∷ xs) = ap suc (as_many_entries xs)

  pub as_many_answers : (xs : List (Examined C)) (es : List Entry) → length es ≡ length xs → length (answers_of xs es) ≡ length xs
  as_many_answers [] [] same = refl
  as_many_answers [] (e ∷ es) same = absurd (omega arith)
  as_many_answers (x ∷ xs) [] same = absurd (omega arith)
  as_many_answers (x ∷ xs) (e ∷ es) same = ap suc (as_many_answers xs es (omega arith))

  -- an answer comes of what was examined and of the entry at its place
  pub record ComesOf (xs : List (Examined C)) (es : List Entry) (k : ℕ) (a : SpecAnswer C) : Type 0 where
    pub examined : Examined C
    pub entry : Entry
    pub examined_at : slice_get xs k ≡ Some examined
    pub entry_at : slice_get es k ≡ Some entry
    pub answered : answer_of examined entry ≡ a

  pub comes_of : (xs : List (Examined C)) (es : List Entry) (k : ℕ) (a : SpecAnswer C) → slice_get (answers_of xs es) k ≡ Some a → ComesOf xs es k a
  comes_of [] es k a is = cc
  comes_of (x ∷ xs) [] k a is = cc
  comes_of (x ∷ xs) (e ∷ es) zero a is = record { examined = x; entry = e; examined_at = refl; entry_at = refl; answered = same_some is }
    where
      same_some : {A : Type 0} {x y : A} → Some x ≡ Some y → x ≡ y
      same_some is = cc
  comes_of (x ∷ xs) (e ∷ es) (suc k) a is =
      let later = comes_of xs es k a is in
      record { examined = later.examined; entry = later.entry; examined_at = later.examined_at; entry_at = later.entry_at; answered = later.answered }

  pub answer_at : (xs : List (Examined C)) (es : List Entry) (k : ℕ) (x : Examined C) (e : Entry) → slice_get xs k ≡ Some x → slice_get es k ≡ Some e
      → slice_get (answers_of xs es) k ≡ Some (answer_of x e)
  answer_at [] es k x e at_x at_e = cc
  answer_at (y ∷ xs) [] k x e at_x at_e = cc
  answer_at (y ∷ xs) (d ∷ es) zero x e at_x at_e = let same_x : y ≡ x = cc in let same_e : d ≡ e = cc in cc
  answer_at (y ∷ xs) (d ∷ es) (suc k) x e at_x at_e = answer_at xs es k x e at_x at_e

  -- no entry depends on another at first
  stands_new : (f : Finding C) → is_new (standing_of f) ≡ true
  stands_new (Finding.Clean names) = refl
  stands_new (Finding.Vacuous proof) = refl
  stands_new (Finding.Caused c) = refl

  new_at : (xs : List (Examined C)) (k : ℕ) (e : Entry) → slice_get (map entry_of xs) k ≡ Some e → is_new e.standing ≡ true
  new_at [] k e is = cc
  new_at (x ∷ xs) zero e is = let same : entry_of x ≡ e = cc in ap (λ (d : Entry). is_new d.standing) (sym same) ∙ stands_new x.finding
  new_at (x ∷ xs) (suc k) e is = new_at xs k e is

  pub new_entries : (xs : List (Examined C)) (es : List Entry) → es ≡ map entry_of xs → AreNew es
  new_entries xs es same e (k, at) = new_at xs k e (ap (λ (ds : List Entry). slice_get ds k) (sym same) ∙ at)
