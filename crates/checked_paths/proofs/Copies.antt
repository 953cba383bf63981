-- Copies of passed invariants say the same.
use Rattle.std.proofs.Common.{◌≡◌, ℕ, ℤ, List, [], ◌∷◌, ◌++◌, sym, subst}
use Rattle.gil_values.specs.Pure.{PureValue}
use Rattle.mem_model.specs.Heaps.{Heap}
use Rattle.checked_runs.specs.Checked.{Passed}
use Rattle.pure_terms.specs.declared.variables.Sort.{Sort}
use Rattle.pure_terms.specs.Pure.{PureTerm}
use Rattle.sym_model.specs.Laws.{IsCopy}
use Rattle.sym_model.specs.Lists.{Each}
use Rattle.sym_model.specs.Terms.{StateTerms, all_of, AreEachOver}
use Rattle.sym_model.proofs.ListLaws.{each_append, each_left, each_right}
use Rattle.checked_paths.specs.Meaning.{IsPassed, ArePassed, IsPassedOver, SaySame, SayTheSame}
use Rattle.checked_paths.specs.Pure.{PurePassed}
use Rattle.checked_paths.proofs.Lists.{pushed_stand}

module _ {S : Type 0} (stands : S → List PureValue → Heap → Type 0) (terms : S → StateTerms) where
  -- an invariant that says of every valuation what another one says
  pub record SaysSame (q r : PurePassed S) : Type 0 where
    pub stand : (v : List PureValue) (z : Passed) → IsPassed stands v q z → IsPassed stands v r z
    pub over : (vars : List Sort) → IsPassedOver terms vars q → IsPassedOver terms vars r

  with_copy : (depends : S → List ℕ → List PureTerm → List PureValue → Heap → PureTerm → Type 0) (plain : S → ℤ → ℤ → Type 0) (q : PurePassed S) (s : S)
      → IsCopy stands terms depends plain q.memory s → SaysSame q (record q { memory = s })
  with_copy depends plain q s copy = record {
    stand = λ v z is. record { at = is.at; memory = (copy.stands_for v z.remainder.heap).0 is.memory; facts = is.facts; unlisted = is.unlisted };
    over = λ vars is. record { memory = subst (λ ts. AreEachOver vars (all_of ts)) (sym copy.same_terms) is.memory; facts = is.facts; unlisted = is.unlisted };
  }

  pub copy_says : (depends : S → List ℕ → List PureTerm → List PureValue → Heap → PureTerm → Type 0) (plain : S → ℤ → ℤ → Type 0) (q r : PurePassed S) → r ≡ record q { memory = r.memory }
      → IsCopy stands terms depends plain q.memory r.memory → SaysSame q r
  copy_says depends plain q r is copy = subst (SaysSame q) (sym is) (with_copy depends plain q r.memory copy)

  pub none_says : SaySame stands terms [] []
  none_says = record { stand = λ v rs are. are; over = λ vars each. each }

  pub says_pushed : (ps qs : List (PurePassed S)) (p q : PurePassed S) → SaySame stands terms ps qs → SaysSame p q → SaySame stands terms (ps ++ p ∷ []) (qs ++ q ∷ [])
  says_pushed ps qs p q before last = record {
    stand = λ v. pushed_stand (IsPassed stands v) ps qs p q (before.stand v) (last.stand v);
    over = λ vars each. each_append (IsPassedOver terms vars) qs (q ∷ []) (before.over vars (each_left (IsPassedOver terms vars) ps (p ∷ []) each)) (last.over vars (each_right (IsPassedOver terms vars) ps (p ∷ []) each).0, tt);
  }

  pub itself_says : (ps : List (List (PurePassed S))) → SayTheSame stands terms ps ps
  itself_says ps = record { stand = λ v rs are. are; over = λ vars each. each }

  pub say_pushed : (ps qs : List (List (PurePassed S))) (p q : List (PurePassed S)) → SayTheSame stands terms ps qs → SaySame stands terms p q → SayTheSame stands terms (ps ++ p ∷ []) (qs ++ q ∷ [])
  say_pushed ps qs p q before last = record {
    stand = λ v. pushed_stand (ArePassed stands v) ps qs p q (before.stand v) (last.stand v);
    over = λ vars each. each_append (Each (IsPassedOver terms vars)) qs (q ∷ []) (before.over vars (each_left (Each (IsPassedOver terms vars)) ps (p ∷ []) each)) (last.over vars (each_right (Each (IsPassedOver terms vars)) ps (p ∷ []) each).0, tt);
  }
