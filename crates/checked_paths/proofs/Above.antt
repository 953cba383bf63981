-- What a checked path stands for is above all symbols: each symbol of heap, frames and facts comes from the valuation.
use Rattle.std.proofs.Common.{◌≡◌, ⊎_elim, inl, inr, ℕ, zero, suc, ◌<◌, List, [], ◌∷◌, Option, Some, None, slice_get, refl, sym, subst, ◌∙◌, arith}
use Rattle.std.specs.List.{All}
use Rattle.std.proofs.lemmas.List.Elements.{Contains-append_left, Contains-append_right, Contains-append_cases}
use Rattle.gil_values.specs.Pure.{PureValue}
use Rattle.gil_values.specs.Symbols.{symbols, symbols_of_all, OccursIn, OccursAmong, IsBelow, AreBelow}
use Rattle.gil_values.proofs.OperatorSymbols.{none_contained}
use Rattle.gil_syntax.specs.Evaluation.{Store, value_of}
use Rattle.gil_machine.specs.Proper.{IsStoreBelow, IsFrameBelow}
use Rattle.gil_machine.specs.State.{Frame}
use Rattle.mem_model.specs.declared.keys.MemoryName.{MemoryName}
use Rattle.mem_model.specs.Heaps.{Heap, IsHeapBelow}
use Rattle.assert_logic.specs.LogicStates.{Fact}
use Rattle.checked_runs.specs.Checked.{IsFactBelow}
use Rattle.pure_terms.specs.Meaning.{value, values, both}
use Rattle.pure_terms.specs.Pure.{PureTerm, from_list}
use Rattle.pure_terms.proofs.SymbolLaws.{invents_no_symbol}
use Rattle.sym_evaluation.specs.Meaning.{AreSame, HaveValues, StandsFor}
use Rattle.sym_evaluation.specs.Pure.{PureStore, term_at}
use Rattle.sym_model.specs.Laws.{IsMeaning, ComesFrom}
use Rattle.sym_model.specs.Lists.{OneOf}
use Rattle.sym_model.specs.Terms.{StateTerms, all_of}
use Rattle.sym_model.proofs.ListLaws.{same_some, not_none}
use Rattle.sym_paths.specs.Meaning.{AreFrames}
use Rattle.sym_paths.specs.Pure.{PureFrame}
use Rattle.sym_states.specs.Meaning.{AreFacts}
use Rattle.sym_states.specs.Pure.{PureFact}
use Rattle.checked_paths.specs.Accounting.{StandsAbove}

among : (v : List PureValue) (y : ℕ) (w : PureValue) (n : ℕ) → slice_get v y ≡ Some w → OccursIn n w → OccursAmong n v
among [] y w n at occurs = not_none at
among (u ∷ v) zero w n at occurs = Contains-append_left (symbols u) (symbols_of_all v) n (subst (OccursIn n) (sym (same_some at)) occurs)
among (u ∷ v) (suc y) w n at occurs = Contains-append_right (symbols u) (symbols_of_all v) n (among v y w n at occurs)

all_none : {X : Type 0} (P : X → Type 0) → All P []
all_none P k d less = absurd (omega (arith, less))

all_next : {X : Type 0} (P : X → Type 0) (x : X) (xs : List X) → P x → All P xs → All P (x ∷ xs)
all_next P x xs first rest zero d less = first
all_next P x xs first rest (suc k) d less = rest k d (omega (arith, less))

module _ (counter : ℕ) (v : List PureValue) (below : AreBelow counter v) where
  value_below : (t : PureTerm) (w : PureValue) → value v t ≡ Some w → IsBelow counter w
  value_below t w is n occurs = let (x, (u, (there, at, in_it))) = invents_no_symbol t v w n is occurs in below n (among v x.number u n at in_it)

  same_below : (o : Option PureTerm) (u : Option PureValue) (w : PureValue) → AreSame v o u → u ≡ Some w → IsBelow counter w
  same_below (Some t) (Some u) w same is = value_below t w (same ∙ is)
  same_below None None w same is = not_none is
  same_below (Some t) None w same is = absurd same
  same_below None (Some u) w same is = absurd same

  pub store_below : (bs : PureStore) (s : Store) → StandsFor v bs s → IsStoreBelow counter s
  store_below bs s same x w is = same_below (term_at bs x) (value_of s x) w (same x) is

  frames_below : (fs : List PureFrame) (gs : List Frame) → AreFrames v fs gs → All (IsFrameBelow counter) gs
  frames_below [] [] are = all_none (IsFrameBelow counter)
  frames_below (f ∷ fs) (g ∷ gs) are = all_next (IsFrameBelow counter) g gs (store_below f.store g.store are.0.store) (frames_below fs gs are.1)
  frames_below [] (g ∷ gs) are = absurd are
  frames_below (f ∷ fs) [] are = absurd are

  first_below : (fs : List PureFrame) (g : Frame) (gs : List Frame) → AreFrames v fs (g ∷ gs) → IsFrameBelow counter g × All (IsFrameBelow counter) gs
  first_below [] g gs are = absurd are
  first_below (f ∷ fs) g gs are = (store_below f.store g.store are.0.store, frames_below fs gs are.1)

  both_below : (o : Option PureValue) (os : Option (List PureValue)) (ws : List PureValue) → ((w : PureValue) → o ≡ Some w → IsBelow counter w)
      → ((us : List PureValue) → os ≡ Some us → AreBelow counter us) → both o os ≡ Some ws → AreBelow counter ws
  both_below (Some w) (Some us) ws first rest is = λ n occurs.
      ⊎_elim (first w refl n) (rest us refl n) (Contains-append_cases (symbols w) (symbols_of_all us) n (subst (OccursAmong n) (sym (same_some is)) occurs))
  both_below None os ws first rest is = not_none is
  both_below (Some w) None ws first rest is = not_none is

  values_below : (ts : List PureTerm) (ws : List PureValue) → HaveValues v ts ws → AreBelow counter ws
  values_below [] ws is = λ n occurs. absurd (none_contained n (subst (OccursAmong n) (sym (same_some is)) occurs))
  values_below (t ∷ ts) ws is = both_below (value v t) (values v (from_list ts)) ws (value_below t) (values_below ts) is

  facts_below : (cs : List PureFact) (fs : List Fact) → AreFacts v cs fs → All (IsFactBelow counter) fs
  facts_below [] [] are = all_none (IsFactBelow counter)
  facts_below (c ∷ cs) (f ∷ fs) are = all_next (IsFactBelow counter) f fs (values_below c.ins f.ins are.0.ins, values_below c.outs f.outs are.0.outs) (facts_below cs fs are.1)
  facts_below [] (f ∷ fs) are = absurd are
  facts_below (c ∷ cs) [] are = absurd are

  come_below : (n : ℕ) (ts : List PureTerm) → OneOf (ComesFrom v n) ts → n < counter
  come_below n [] one = absurd one
  come_below n (t ∷ ts) (inl (x, (w, (there, at, occurs)))) = below n (among v x.number w n at occurs)
  come_below n (t ∷ ts) (inr later) = come_below n ts later

  heap_below : {S : Type 0} (memory : MemoryName) (stands : S → List PureValue → Heap → Type 0) (terms : S → StateTerms) → IsMeaning memory stands terms
      → (s : S) (h : Heap) → stands s v h → IsHeapBelow counter h
  heap_below memory stands terms meaning s h is k w holds = (
    come_below k.loc (all_of (terms s)) (meaning.symbols s v h k.loc is (k, (w, (holds, inl refl)))),
    (λ n occurs. come_below n (all_of (terms s)) (meaning.symbols s v h n is (k, (w, (holds, inr occurs))))),
  )

pub stands_above : {S : Type 0} (memory : MemoryName) (stands : S → List PureValue → Heap → Type 0) (terms : S → StateTerms) → IsMeaning memory stands terms → StandsAbove stands
stands_above memory stands terms meaning e x v entry c standing =
    let below = standing.path.symbols_below in
    let frames = first_below c.machine.counter v below x.path.stack c.machine.current c.machine.callers standing.path.frames in
    record {
      heap_below = heap_below c.machine.counter v below memory stands terms meaning x.path.memory c.machine.heap standing.path.memory;
      current_below = frames.0;
      callers_below = frames.1;
      facts_below = facts_below c.machine.counter v below x.facts c.facts standing.facts;
    }
