-- The same terms stand for the same heaps, facts and values.
use Rattle.std.proofs.Common.{◌≡◌, List, [], ◌∷◌, Bool, true, false, cond, Option, Some, None, refl, sym, ap, subst, ◌∙◌}
use Rattle.std.specs.FinMap.{get, remove, get-remove}
use Rattle.gil_values.specs.Pure.{PureValue}
use Rattle.gil_syntax.specs.Evaluation.{Store, value_of}
use Rattle.mem_model.specs.declared.keys.Key.{Key}
use Rattle.mem_model.specs.Cores.{core_entry}
use Rattle.mem_model.specs.Heaps.{Heap, Holds}
use Rattle.mem_model.specs.KeyOrder.{key_cmp-total, key_eq}
use Rattle.mem_model.proofs.Holding.{same_key}
use Rattle.mem_model.proofs.Joins.{same_heap}
use Rattle.assert_logic.specs.LogicStates.{Fact}
use Rattle.checked_runs.specs.Checked.{AreSame as AreSameValues, unlisted_in}
use Rattle.pure_terms.specs.Pure.{PureTerm}
use Rattle.sym_evaluation.specs.Meaning.{AreSame, StandsFor}
use Rattle.sym_evaluation.specs.Pure.{PureStore, term_at}
use Rattle.sym_model.specs.Listing.{IsUse, AreUnion}
use Rattle.sym_model.specs.Pure.{PureUse}
use Rattle.sym_model.proofs.ListLaws.{same_some}
use Rattle.sym_states.specs.Meaning.{IsFact, AreFacts}
use Rattle.sym_states.specs.Pure.{PureFact}
use Rattle.checked_paths.specs.Pure.{PurePassed}
use Rattle.invariant_rows.specs.Remainders.{IsSurelyAsBefore}

-- ---- heaps

left_alone : (b : Bool) (o : Option PureValue) → b ≡ false → cond b None o ≡ o
left_alone true o is = cc
left_alone false o is = refl

-- heaps that hold the same at a key, and are the same without it
module _ (g h : Heap) (k : Key) (w : PureValue) (left : Holds g k w) (right : Holds h k w) (rest : remove g k ≡ remove h k) where
  at_key : (q : Key) (b : Bool) → key_eq q k ≡ b → get g q ≡ get h q
  at_key q true is = ap (get g) (same_key q k is) ∙ left ∙ sym right ∙ sym (ap (get h) (same_key q k is))
  at_key q false is =
      sym (left_alone (key_eq q k) (get g q) is) ∙ sym (get-remove key_cmp-total g k q) ∙ ap (λ (x : Heap). get x q) rest
      ∙ get-remove key_cmp-total h k q ∙ left_alone (key_eq q k) (get h q) is

  pub same_with : g ≡ h
  same_with = same_heap g h (λ q. at_key q (key_eq q k) refl)

-- a use stands for one key and one value
pub one_entry : (v : List PureValue) (u : PureUse) (k l : Key) (w x : PureValue) → IsUse v u k w → IsUse v u l x → (k ≡ l) × (w ≡ x)
one_entry v u k l w x first second =
    let values : first.ws ≡ second.ws = same_some (sym first.have ∙ second.have) in
    let entry = same_some (sym first.entry ∙ ap (λ ws. core_entry u.core ws) values ∙ second.entry) in
    (ap (λ e. e.0) entry, ap (λ e. e.1) entry)

pub one_heap : (v : List PureValue) (us : List PureUse) (g h : Heap) → AreUnion v us g → AreUnion v us h → g ≡ h
one_heap v [] g h first second = first ∙ sym second
one_heap v (u ∷ us) g h (k, (w, (is, holds, rest))) (l, (x, (is_too, holds_too, rest_too))) =
    let (same, values) = one_entry v u k l w x is is_too in
    let there : Holds h k w = subst (λ j. Holds h j w) (sym same) (subst (Holds h l) (sym values) holds_too) in
    let rest_there : AreUnion v us (remove h k) = subst (λ j. AreUnion v us (remove h j)) (sym same) rest_too in
    same_with g h k w holds there (one_heap v us (remove g k) (remove h k) rest rest_there)

-- ---- facts and values

pub same_fact : (v : List PureValue) (c : PureFact) (f g : Fact) → IsFact v c f → IsFact v c g → f ≡ g
same_fact v c f g first second =
    let pred : f.pred ≡ g.pred = sym first.pred ∙ second.pred in
    let ins : f.ins ≡ g.ins = same_some (sym first.ins ∙ second.ins) in
    let outs : f.outs ≡ g.outs = same_some (sym first.outs ∙ second.outs) in
    λ i. record { pred = pred i; ins = ins i; outs = outs i }

pub same_facts : (v : List PureValue) (cs : List PureFact) (fs gs : List Fact) → AreFacts v cs fs → AreFacts v cs gs → fs ≡ gs
same_facts v [] [] [] first second = refl
same_facts v (c ∷ cs) (f ∷ fs) (g ∷ gs) first second =
    let one = same_fact v c f g first.0 second.0 in
    let rest = same_facts v cs fs gs first.1 second.1 in
    λ i. one i ∷ rest i
same_facts v [] (f ∷ fs) gs first second = absurd first
same_facts v [] [] (g ∷ gs) first second = absurd second
same_facts v (c ∷ cs) [] gs first second = absurd first
same_facts v (c ∷ cs) (f ∷ fs) [] first second = absurd second

same_value : (v : List PureValue) (t : Option PureTerm) (a b : Option PureValue) → AreSame v t a → AreSame v t b → a ≡ b
same_value v (Some t) (Some a) (Some b) first second = sym first ∙ second
same_value v None None None first second = refl
same_value v (Some t) None b first second = absurd first
same_value v (Some t) (Some a) None first second = absurd second
same_value v None (Some a) b first second = absurd first
same_value v None None (Some b) first second = absurd second

pub same_values : (v : List PureValue) (bs : PureStore) (s t : Store) → StandsFor v bs s → StandsFor v bs t → AreSameValues s t
same_values v bs s t first second = λ x. same_value v (term_at bs x) (value_of s x) (value_of t x) (first x) (second x)

-- ---- what is left

module _ {S : Type 0} (stands : S → List PureValue → Heap → Type 0) (memory : S) (facts : List PureFact) (unlisted : PureStore) (former : PurePassed S) (us them : List PureUse) where
  pub as_before : ((v : List PureValue) (h : Heap) → stands memory v h → AreUnion v us h) → ((v : List PureValue) (h : Heap) → stands former.memory v h → AreUnion v them h)
      → facts ≡ former.facts → unlisted ≡ former.unlisted → us ≡ them → IsSurelyAsBefore stands memory facts unlisted former
  as_before lists lists_too facts_same unlisted_same uses_same p name m entry v xs q left c heap are values passed = record {
    same_heap = one_heap v them left.heap q.remainder.heap (subst (λ ws. AreUnion v ws left.heap) uses_same (lists v left.heap heap)) (lists_too v q.remainder.heap passed.memory);
    same_facts = same_facts v former.facts left.facts q.remainder.facts (subst (λ cs. AreFacts v cs left.facts) facts_same are) passed.facts;
    same_values = same_values v former.unlisted _ q.unlisted (subst (λ bs. StandsFor v bs (unlisted_in xs c.machine.current.store)) unlisted_same values) passed.unlisted;
  }
