-- Answers that come of the elements of a list.
use Rattle.std.proofs.Common.{◌≡◌, ◌⊎◌, ⊎_elim, inl, inr, ℕ, zero, suc, List, [], ◌∷◌, ◌++◌, Some, slice_get, refl, sym, ap, subst, ◌∙◌, append_assoc}
use Rattle.std.proofs.lemmas.List.{append-nil}
use Rattle.sym_model.specs.Lists.{Each, OneOf}
use Rattle.sym_model.proofs.ListLaws.{same_some, not_none, one_left, one_right, each_append}
use Rattle.checked_paths.specs.Pure.{PureNext}
use Rattle.call_rows.specs.Gathering.{GathersNexts}

module _ {A S : Type 0} (R : A → List (PureNext S) → Type 0) where
  -- the answers of one element more
  pub gathers_last : (xs : List A) (x : A) (ks more : List (PureNext S)) → GathersNexts R xs ks → R x more → GathersNexts R (xs ++ x ∷ []) (ks ++ more)
  gathers_last [] x ks more gathers last = (more, ([], (last, refl, ap (λ ns. ns ++ more) gathers ∙ sym (append-nil more))))
  gathers_last (y ∷ ys) x ks more (first, (rest, (here, later, is))) last =
      (first, (rest ++ more, (here, gathers_last ys x rest more later last, ap (λ ns. ns ++ more) is ∙ append_assoc first rest more)))

  -- some answer is as it should be, where one of the elements gives such a one
  pub one_gathered : (P : A → Type 0) (Q : PureNext S → Type 0) (xs : List A) (ks : List (PureNext S)) → GathersNexts R xs ks → ((x : A) (ns : List (PureNext S)) → R x ns → P x → OneOf Q ns) → OneOf P xs → OneOf Q ks
  one_gathered P Q [] ks gathers go one = absurd one
  one_gathered P Q (x ∷ xs) ks (first, (rest, (here, later, is))) go (inl this) = subst (OneOf Q) (sym is) (one_left Q first rest (go x first here this))
  one_gathered P Q (x ∷ xs) ks (first, (rest, (here, later, is))) go (inr other) = subst (OneOf Q) (sym is) (one_right Q first rest (one_gathered P Q xs rest later go other))

  -- the same of the element at a place
  pub place_gathered : (Q : PureNext S → Type 0) (xs : List A) (ks : List (PureNext S)) (i : ℕ) (x : A) → GathersNexts R xs ks → slice_get xs i ≡ Some x → ((ns : List (PureNext S)) → R x ns → OneOf Q ns) → OneOf Q ks
  place_gathered Q [] ks i x gathers at go = not_none at
  place_gathered Q (y ∷ ys) ks zero x (first, (rest, (here, later, is))) at go = subst (OneOf Q) (sym is) (one_left Q first rest (go first (subst (λ z. R z first) (same_some at) here)))
  place_gathered Q (y ∷ ys) ks (suc i) x (first, (rest, (here, later, is))) at go = subst (OneOf Q) (sym is) (one_right Q first rest (place_gathered Q ys rest i x later at go))

  -- each answer is as it should be, where the elements give such ones alone
  pub each_gathered : (P : A → Type 0) (Q : PureNext S → Type 0) (xs : List A) (ks : List (PureNext S)) → GathersNexts R xs ks → ((x : A) (ns : List (PureNext S)) → R x ns → P x → Each Q ns) → Each P xs → Each Q ks
  each_gathered P Q [] ks gathers go each = subst (Each Q) (sym gathers) tt
  each_gathered P Q (x ∷ xs) ks (first, (rest, (here, later, is))) go each = subst (Each Q) (sym is) (each_append Q first rest (go x first here each.0) (each_gathered P Q xs rest later go each.1))

  -- something holds, or some answer is as it should be, where so it is of one of the elements
  pub gathered_or : (B : Type 0) (P : A → Type 0) (Q : PureNext S → Type 0) (xs : List A) (ks : List (PureNext S)) → GathersNexts R xs ks → ((x : A) (ns : List (PureNext S)) → R x ns → P x → B ⊎ OneOf Q ns) → OneOf P xs → B ⊎ OneOf Q ks
  gathered_or B P Q [] ks gathers go one = absurd one
  gathered_or B P Q (x ∷ xs) ks (first, (rest, (here, later, is))) go (inl this) = ⊎_elim inl (λ found. inr (subst (OneOf Q) (sym is) (one_left Q first rest found))) (go x first here this)
  gathered_or B P Q (x ∷ xs) ks (first, (rest, (here, later, is))) go (inr other) = ⊎_elim inl (λ found. inr (subst (OneOf Q) (sym is) (one_right Q first rest found))) (gathered_or B P Q xs rest later go other)

  pub all_gathered : (Q : PureNext S → Type 0) (xs : List A) (ks : List (PureNext S)) → GathersNexts R xs ks → ((x : A) (ns : List (PureNext S)) → R x ns → Each Q ns) → Each Q ks
  all_gathered Q [] ks gathers go = subst (Each Q) (sym gathers) tt
  all_gathered Q (x ∷ xs) ks (first, (rest, (here, later, is))) go = subst (Each Q) (sym is) (each_append Q first rest (go x first here) (all_gathered Q xs rest later go))
