-- What holds of each symbol in the values of the names that items have holds of each symbol of the facts that they add.
use Rattle.std.proofs.Common.{◌≡◌, ℕ, List, [], ◌∷◌, ◌++◌, Bool, true, false, ◌&&◌, ◌||◌, cond, Option, Some, None, Ok, Err, refl, sym, ap, subst, ◌∙◌}
use Rattle.std.specs.List.{list_all}
use Rattle.std.specs.Option.{option_and_then}
use Rattle.std.specs.FinMap.{insert, contains_key}
use Rattle.std.specs.Str.{bytes_eq}
use Rattle.std.proofs.lemmas.Bool.{and_parts}
use Rattle.std.proofs.lemmas.List.Folds.{list_all-append}
use Rattle.std.proofs.lemmas.Slice.Eq.{bytes_eq-Decides}
use Rattle.gil_values.specs.Pure.{PureValue, boolean}
use Rattle.gil_values.specs.Operators.{Outcome}
use Rattle.gil_syntax.specs.Pure.{PureExpr, PurePredUse, PureItem, pure, uses}
use Rattle.gil_syntax.specs.Subexpressions.{names_of, exprs_of_item}
use Rattle.gil_syntax.specs.Valid.{is_among}
use Rattle.gil_syntax.specs.WellMade.{is_well_made_expr, is_well_made_assertion}
use Rattle.gil_syntax.specs.Evaluation.{Store, Outcomes, evaluate, evaluate_all}
use Rattle.mem_model.specs.declared.cores.Core.{Core}
use Rattle.mem_model.specs.declared.keys.Key.{Key}
use Rattle.mem_model.specs.CoreNames.{core_of}
use Rattle.mem_model.specs.Cores.{entry_of}
use Rattle.assert_logic.specs.Names.{Known, knows_all, named_among, named_by_item, named_by_items}
use Rattle.assert_logic.specs.LogicStates.{LogicState}
use Rattle.assert_logic.specs.Adding.{where_true, with_key, with_use, with_values, with_item, added}
use Rattle.assert_logic.proofs.AddingLaws.{same_some, no_value}
use Rattle.assert_logic.proofs.GivenNames.{Within, or_left, or_right}
use Rattle.assert_logic.proofs.InventionLaws.{KnownHold, values_hold}
use Rattle.assert_logic.proofs.MatchedValues.{EachFactHolds, facts_hold_after}

pub each_known : (known : Known) (xs : List (List ℕ)) → Within (is_among xs) known → list_all known xs ≡ true
each_known known [] is = refl
each_known known (x ∷ xs) is =
    let first : known x ≡ true = is x (ap (λ b. b || is_among xs x) ((bytes_eq-Decides x x).1 refl)) in
    let later : list_all known xs ≡ true = each_known known xs (λ y among. is y (or_right (bytes_eq y x) (is_among xs y) among)) in
    ap (λ b. b && list_all known xs) first ∙ later

all_known : (known : Known) (es : List PureExpr) → Within (named_among es) known → list_all (knows_all known) es ≡ true
all_known known [] is = refl
all_known known (e ∷ es) is =
    let first : knows_all known e ≡ true = each_known known (names_of e) (λ y among. is y (or_left (is_among (names_of e) y) (named_among es y) among)) in
    let later : list_all (knows_all known) es ≡ true = all_known known es (λ y among. is y (or_right (is_among (names_of e) y) (named_among es y) among)) in
    ap (λ b. b && list_all (knows_all known) es) first ∙ later

module _ (P : ℕ → Type 0) (store : Store) (known : Known) (hold : KnownHold P known store) where
  key_facts : (o : Option (Key × PureValue)) (s t : LogicState) → with_key o s ≡ Some t → EachFactHolds P s.facts → EachFactHolds P t.facts
  key_facts None s t is h = no_value t is
  key_facts (Some e) s t is h = by (contains_key s.heap e.0) is
    where
      by : (b : Bool) → cond b None (Some (record s { heap = insert s.heap e.0 e.1 })) ≡ Some t → EachFactHolds P t.facts
      by true found = no_value t found
      by false found = subst (λ x. EachFactHolds P x.facts) (same_some found) h

  value_facts : (u : PurePredUse) (s t : LogicState) (ins outs : Outcomes) → evaluate_all u.ins store ≡ ins → evaluate_all u.outs store ≡ outs → with_values u.pred ins outs s ≡ Some t → list_all is_well_made_expr (u.ins ++ u.outs) ≡ true → Within (named_by_item (uses u)) known
      → EachFactHolds P s.facts → EachFactHolds P t.facts
  value_facts u s t (Err f) outs ins_are outs_are is made within h = no_value t is
  value_facts u s t (Ok ins) (Err f) ins_are outs_are is made within h = no_value t is
  value_facts u s t (Ok ins) (Ok outs) ins_are outs_are is made within h = by (core_of u.pred) is
    where
      by : (o : Option Core) → with_use o u.pred ins outs s ≡ Some t → EachFactHolds P t.facts
      by (Some core) found = key_facts (entry_of core (ins ++ outs)) s t found h
      by None found =
          let (made_ins, made_outs) = and_parts (list_all is_well_made_expr u.ins) (list_all is_well_made_expr u.outs) (sym (list_all-append is_well_made_expr u.ins u.outs) ∙ made) in
          let of_ins = values_hold P known store u.ins ins made_ins (all_known known u.ins (λ x is_in. within x (or_left (named_among u.ins x) (named_among u.outs x) is_in))) hold ins_are in
          let of_outs = values_hold P known store u.outs outs made_outs (all_known known u.outs (λ x is_in. within x (or_right (named_among u.ins x) (named_among u.outs x) is_in))) hold outs_are in
          subst (λ x. EachFactHolds P x.facts) (same_some found) (facts_hold_after P s.facts (record { pred = u.pred; ins = ins; outs = outs }) h (of_ins, of_outs))

  item_facts : (item : PureItem) (s t : LogicState) → with_item store item s ≡ Some t → list_all is_well_made_expr (exprs_of_item item) ≡ true → Within (named_by_item item) known → EachFactHolds P s.facts → EachFactHolds P t.facts
  item_facts (pure e) s t is made within h = by (evaluate e store) is
    where
      by : (o : Outcome) → where_true o s ≡ Some t → EachFactHolds P t.facts
      by (Ok (boolean true)) found = subst (λ x. EachFactHolds P x.facts) (same_some found) h
      by _ found = no_value t found
  item_facts (uses u) s t is made within h = value_facts u s t (evaluate_all u.ins store) (evaluate_all u.outs store) refl refl is made within h

  pub added_facts : (items : List PureItem) (s t : LogicState) → added store items s ≡ Some t → is_well_made_assertion items ≡ true → Within (named_by_items items) known → EachFactHolds P s.facts → EachFactHolds P t.facts
  added_facts [] s t is made within h = subst (λ x. EachFactHolds P x.facts) (same_some is) h
  added_facts (item ∷ items) s t is made within h =
      let (made_here, made_there) = and_parts (list_all is_well_made_expr (exprs_of_item item)) (is_well_made_assertion items) made in
      by (λ u later k. added_facts items u t later made_there (λ x is_in. within x (or_right (named_by_item item x) (named_by_items items x) is_in)) k) made_here (with_item store item s) refl is
    where
      by : ((u : LogicState) → added store items u ≡ Some t → EachFactHolds P u.facts → EachFactHolds P t.facts) → list_all is_well_made_expr (exprs_of_item item) ≡ true → (o : Option LogicState) → with_item store item s ≡ o → option_and_then (added store items) o ≡ Some t → EachFactHolds P t.facts
      by each made_here None here found = no_value t found
      by each made_here (Some u) here found = each u found (item_facts item s u here made_here (λ x is_in. within x (or_left (named_by_item item x) (named_by_items items x) is_in)) h)
