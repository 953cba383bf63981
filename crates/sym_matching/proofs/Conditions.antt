-- Conditions behind others: what is true of them, and what they name.
use Rattle.std.proofs.Common.{◌≡◌, ◌⊎◌, ⊎_elim, inl, inr, List, [], ◌∷◌, ◌++◌, map, Bool, true, false, ◌&&◌, Option, Some, None, IsTrue, refl, ap, ◌∙◌}
use Rattle.std.specs.Option.{option_map}
use Rattle.gil_values.specs.Pure.{PureValue}
use Rattle.pure_terms.specs.declared.variables.Sort.{Sort}
use Rattle.pure_terms.specs.Meaning.{all_true}
use Rattle.pure_terms.specs.Pure.{PureAtom}
use Rattle.sym_model.specs.Alternatives.{Alternatives, Hold}
use Rattle.sym_model.proofs.Combined.{both_from, both_parts}
use Rattle.sym_model.specs.Lists.{Each}
use Rattle.sym_model.proofs.ListLaws.{each_append, each_map, each_to, one_left, one_right, one_parts}
use Rattle.sym_states.proofs.Conditions.{met_parts, met_both}
use Rattle.sym_matching.specs.Meaning.{AreMet, SaysTest, IsCondition, AreConditions, AreConditionsIfAny, IsTestOver}
use Rattle.sym_matching.specs.Pure.{PureTest}
use Rattle.sym_matching.specs.Splitting.{behind_conds, also_by, also, passed, failed}

module _ (v : List PureValue) where
  abbrev AllTrue : List PureAtom → Type 0
  AllTrue conds = IsTrue (all_true v conds)

  pub behind_holds : (conds : List PureAtom) (x : Alternatives) → AllTrue conds → Hold v x → Hold v (behind_conds conds x)
  behind_holds conds x met holds = both_from v (conds ∷ []) x (inl met) holds

  pub behind_parts : (conds : List PureAtom) (x : Alternatives) → Hold v (behind_conds conds x) → AllTrue conds × Hold v x
  behind_parts conds x holds = let parts = both_parts v (conds ∷ []) x holds in (⊎_elim (λ here. here) (λ none. absurd none) parts.0, parts.1)

  -- ---- tests

  when_behind : (conds : List PureAtom) (o : Option (List PureAtom)) → AllTrue conds → AreMet v o → AreMet v (option_map (λ more. conds ++ more) o)
  when_behind conds None first second = absurd second
  when_behind conds (Some more) first second = met_both v conds more first second

  when_parts : (conds : List PureAtom) (o : Option (List PureAtom)) → AreMet v (option_map (λ more. conds ++ more) o) → AllTrue conds × AreMet v o
  when_parts conds None met = absurd met
  when_parts conds (Some more) met = met_parts v conds more met

  and_false : (x y : Bool) → y ≡ false → (x && y) ≡ false
  and_false true y is = is
  and_false false y is = refl

  also_by_says : (o : Option (List PureAtom)) (rest : Alternatives) (b : PureTest) (x y : Bool) → AreMet v o ⊎ Hold v rest → (AreMet v o → x ≡ true) → (Hold v rest → x ≡ false) → SaysTest v b y
      → SaysTest v (also_by o rest b) (x && y)
  also_by_says None rest b x y cover when otherwise second = record {
    cover = ⊎_elim (λ met. absurd met) (λ holds. inr holds) cover;
    when = λ met. absurd met;
    otherwise = λ holds. ap (λ c. c && y) (otherwise holds);
  }
  also_by_says (Some conds) rest b x y cover when otherwise second = record {
    cover = ⊎_elim
        (λ met. ⊎_elim (λ more. inl (when_behind conds b.when met more)) (λ holds. inr (one_right AllTrue rest (behind_conds conds b.otherwise) (behind_holds conds b.otherwise met holds))) second.cover)
        (λ holds. inr (one_left AllTrue rest (behind_conds conds b.otherwise) holds)) cover;
    when = λ met. let parts = when_parts conds b.when met in ap (λ c. c && y) (when parts.0) ∙ second.when parts.1;
    otherwise = λ holds. ⊎_elim (λ here. ap (λ c. c && y) (otherwise here)) (λ later. and_false x y (second.otherwise (behind_parts conds b.otherwise later).1))
        (one_parts AllTrue rest (behind_conds conds b.otherwise) holds);
  }

  pub also_says : (a b : PureTest) (x y : Bool) → SaysTest v a x → SaysTest v b y → SaysTest v (also a b) (x && y)
  also_says a b x y first second = also_by_says a.when a.otherwise b x y first.cover first.when first.otherwise second

  pub passed_says : SaysTest v passed true
  passed_says = record { cover = inl refl; when = λ met. refl; otherwise = λ holds. absurd holds }

  pub failed_says : SaysTest v failed false
  failed_says = record { cover = inr (inl refl); when = λ met. absurd met; otherwise = λ holds. refl }

-- ---- what they name

module _ (vars : List Sort) where
  pub behind_over : (conds : List PureAtom) (x : Alternatives) → AreConditions vars conds → Each (AreConditions vars) x → Each (AreConditions vars) (behind_conds conds x)
  behind_over conds x first all =
      each_append (AreConditions vars) (map (λ b. conds ++ b) x) []
      (each_map (AreConditions vars) (λ b. conds ++ b) x (each_to (AreConditions vars) (λ b. AreConditions vars (conds ++ b)) x (λ b is. each_append (IsCondition vars) conds b first is) all))
      tt

  when_over : (conds : List PureAtom) (o : Option (List PureAtom)) → AreConditions vars conds → AreConditionsIfAny vars o → AreConditionsIfAny vars (option_map (λ more. conds ++ more) o)
  when_over conds None first second = tt
  when_over conds (Some more) first second = each_append (IsCondition vars) conds more first second

  also_by_over : (o : Option (List PureAtom)) (rest : Alternatives) (b : PureTest) → AreConditionsIfAny vars o → Each (AreConditions vars) rest → IsTestOver vars b → IsTestOver vars (also_by o rest b)
  also_by_over None rest b first others second = record { when = tt; otherwise = others }
  also_by_over (Some conds) rest b first others second = record {
    when = when_over conds b.when first second.when;
    otherwise = each_append (AreConditions vars) rest (behind_conds conds b.otherwise) others (behind_over conds b.otherwise first second.otherwise);
  }

  pub also_over : (a b : PureTest) → IsTestOver vars a → IsTestOver vars b → IsTestOver vars (also a b)
  also_over a b first second = also_by_over a.when a.otherwise b first.when first.otherwise second

  pub passed_over : IsTestOver vars passed
  passed_over = record { when = tt; otherwise = tt }

  pub failed_over : IsTestOver vars failed
  failed_over = record { when = tt; otherwise = (tt, tt) }
