-- What a checked path stands for stays where the valuation grows.
use Rattle.std.proofs.Common.{◌≡◌, List, [], ◌∷◌, ◌++◌, length, Option, Some, None, refl, sym, ◌∙◌}
use Rattle.gil_values.specs.Pure.{PureValue}
use Rattle.gil_syntax.specs.Evaluation.{Store, value_of}
use Rattle.mem_model.specs.declared.keys.MemoryName.{MemoryName}
use Rattle.mem_model.specs.Heaps.{Heap}
use Rattle.assert_logic.specs.LogicStates.{Fact}
use Rattle.checked_runs.specs.Checked.{Entry, Passed}
use Rattle.pure_terms.specs.declared.variables.Sort.{Sort}
use Rattle.pure_terms.specs.Laws.{AgreeOn}
use Rattle.pure_terms.specs.Meaning.{values, both, IsOver}
use Rattle.pure_terms.specs.Pure.{PureTerm, from_list, variables}
use Rattle.pure_terms.proofs.VariableLaws.{slice_get-append, stay_when_tables_grow}
use Rattle.std.proofs.lemmas.Option.{slice_get_within}
use Rattle.std.proofs.Common.{◌<◌, arith}
use Rattle.sym_evaluation.specs.Meaning.{AreSame, HaveValues, IsStoreOver, StandsFor}
use Rattle.sym_evaluation.specs.Pure.{PureStore, term_at}
use Rattle.sym_model.specs.Laws.{IsMeaning}
use Rattle.sym_model.specs.Lists.{Each}
use Rattle.sym_model.specs.Terms.{StateTerms, all_of, AreEachOver}
use Rattle.sym_model.proofs.ListLaws.{each_left, each_right, each_to}
use Rattle.sym_states.specs.Meaning.{AreFacts}
use Rattle.sym_states.specs.Pure.{PureFact}
use Rattle.checked_paths.specs.Meaning.{IsEntered, IsPassed, ArePassed, ArePassedBy, AreFactsOver, IsEntryOver, IsPassedOver}
use Rattle.checked_paths.specs.Pure.{PureEntry, PurePassed}
use Rattle.checked_paths.proofs.Lists.{each_with_if}

module _ (vars : List Sort) (v more : List PureValue) (one_each : length v ≡ length vars) where
  values_more : (ts : List PureTerm) → AreEachOver vars ts → values (v ++ more) (from_list ts) ≡ values v (from_list ts)
  values_more [] over = refl
  values_more (t ∷ ts) over =
      let first = stay_when_tables_grow.values t vars v more over.0 one_each in
      let rest = values_more ts over.1 in
      λ i. both (first i) (rest i)

  pub have_more : (ts : List PureTerm) (ws : List PureValue) → AreEachOver vars ts → HaveValues v ts ws → HaveValues (v ++ more) ts ws
  have_more ts ws over have = values_more ts over ∙ have

  same-more : (o : Option PureTerm) (u : Option PureValue) → ((t : PureTerm) → o ≡ Some t → IsOver vars t) → AreSame v o u → AreSame (v ++ more) o u
  same-more (Some t) (Some w) over same = stay_when_tables_grow.values t vars v more (over t refl) one_each ∙ same
  same-more None None over same = tt
  same-more (Some t) None over same = absurd same
  same-more None (Some w) over same = absurd same

  pub store_more : (bs : PureStore) (s : Store) → IsStoreOver vars bs → StandsFor v bs s → StandsFor (v ++ more) bs s
  store_more bs s over same x = same-more (term_at bs x) (value_of s x) (over x) (same x)

  pub agree_more : (t : PureTerm) → IsOver vars t → AgreeOn (variables t) v (v ++ more)
  agree_more t over x has =
      let within : x.number < length vars = slice_get_within vars x.number x.sort (over x has) in
      sym (slice_get-append v more x.number (omega (arith, within, one_each)))

  pub facts_more : (cs : List PureFact) (fs : List Fact) → AreFactsOver vars cs → AreFacts v cs fs → AreFacts (v ++ more) cs fs
  facts_more [] [] over are = tt
  facts_more (c ∷ cs) (f ∷ fs) over are = (
    record {
      pred = are.0.pred;
      ins = have_more c.ins f.ins (each_left (IsOver vars) c.ins c.outs over.0) are.0.ins;
      outs = have_more c.outs f.outs (each_right (IsOver vars) c.ins c.outs over.0) are.0.outs;
    },
    facts_more cs fs over.1 are.1,
  )
  facts_more [] (f ∷ fs) over are = absurd are
  facts_more (c ∷ cs) [] over are = absurd are

  pub entered_more : (e : PureEntry) (entry : Entry) → IsEntryOver vars e → IsEntered v e entry → IsEntered (v ++ more) e entry
  entered_more e entry over is = record {
    spec = is.spec;
    args = have_more e.args entry.args over.args is.args;
    variables = store_more e.variables entry.variables over.variables is.variables;
  }

  module _ {S : Type 0} (memory : MemoryName) (stands : S → List PureValue → Heap → Type 0) (terms : S → StateTerms) (meaning : IsMeaning memory stands terms) where
    passed_more : (q : PurePassed S) (r : Passed) → IsPassedOver terms vars q → IsPassed stands v q r → IsPassed stands (v ++ more) q r
    passed_more q r over is = record {
      at = is.at;
      memory = meaning.local q.memory v (v ++ more) r.remainder.heap (each_to (IsOver vars) (λ t. AgreeOn (variables t) v (v ++ more)) (all_of (terms q.memory)) agree_more over.memory) is.memory;
      facts = facts_more q.facts r.remainder.facts over.facts is.facts;
      unlisted = store_more q.unlisted r.unlisted over.unlisted is.unlisted;
    }

    all_passed_more : (qs : List (PurePassed S)) (rs : List Passed) → Each (IsPassedOver terms vars) qs → ArePassed stands v qs rs → ArePassed stands (v ++ more) qs rs
    all_passed_more qs rs = each_with_if (IsPassedOver terms vars) (IsPassed stands v) (IsPassed stands (v ++ more)) qs rs passed_more

    pub passed_by_more : (ps : List (List (PurePassed S))) (rs : List (List Passed)) → Each (Each (IsPassedOver terms vars)) ps → ArePassedBy stands v ps rs → ArePassedBy stands (v ++ more) ps rs
    passed_by_more ps rs = each_with_if (Each (IsPassedOver terms vars)) (ArePassed stands v) (ArePassed stands (v ++ more)) ps rs all_passed_more

-- ---- larger tables

module _ (vars more : List Sort) where
  over_more : (t : PureTerm) → IsOver vars t → IsOver (vars ++ more) t
  over_more t over = stay_when_tables_grow.over t vars more over

  terms_over_more : (ts : List PureTerm) → AreEachOver vars ts → AreEachOver (vars ++ more) ts
  terms_over_more ts = each_to (IsOver vars) (IsOver (vars ++ more)) ts over_more

  store_over_more : (bs : PureStore) → IsStoreOver vars bs → IsStoreOver (vars ++ more) bs
  store_over_more bs over x t is = over_more t (over x t is)

  pub facts_over_more : (cs : List PureFact) → AreFactsOver vars cs → AreFactsOver (vars ++ more) cs
  facts_over_more cs = each_to (λ f. AreEachOver vars (f.ins ++ f.outs)) (λ f. AreEachOver (vars ++ more) (f.ins ++ f.outs)) cs (λ f. terms_over_more (f.ins ++ f.outs))

  pub entry_over_more : (e : PureEntry) → IsEntryOver vars e → IsEntryOver (vars ++ more) e
  entry_over_more e over = record { as_many = over.as_many; args = terms_over_more e.args over.args; variables = store_over_more e.variables over.variables }

  module _ {S : Type 0} (terms : S → StateTerms) where
    passed_over_more : (q : PurePassed S) → IsPassedOver terms vars q → IsPassedOver terms (vars ++ more) q
    passed_over_more q over = record {
      memory = terms_over_more (all_of (terms q.memory)) over.memory;
      facts = facts_over_more q.facts over.facts;
      unlisted = store_over_more q.unlisted over.unlisted;
    }

    pub passed_by_over_more : (ps : List (List (PurePassed S))) → Each (Each (IsPassedOver terms vars)) ps → Each (Each (IsPassedOver terms (vars ++ more))) ps
    passed_by_over_more ps = each_to (Each (IsPassedOver terms vars)) (Each (IsPassedOver terms (vars ++ more))) ps (λ qs. each_to (IsPassedOver terms vars) (IsPassedOver terms (vars ++ more)) qs passed_over_more)
