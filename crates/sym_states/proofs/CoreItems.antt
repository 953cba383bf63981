-- What producing a core predicate gives.
use Rattle.std.proofs.Common.{◌≡◌, ◌⊎◌, ⊎_elim, inl, inr, ℕ, ◌+◌, ◌≤◌, ℤ, pos, neg_ℤ, ◌-ℤ◌, ◌+ℤ◌, ◌≤ℤ◌, List, [], ◌∷◌, ◌++◌, Bool, true, false, if◌then◌else◌, Option, Some, None, IsTrue, refl, sym, ap, subst, ◌∙◌, true≢false}
use Rattle.std.specs.FinMap.{insert}
use Rattle.std.specs.List.{flat_map}
use Rattle.std.specs.Prelude.{codes}
use Rattle.std.specs.Str.{bytes_eq}
use Rattle.std.proofs.lemmas.Grind.{flat_map-append}
use Rattle.std.proofs.lemmas.List.{append-nil}
use Rattle.gil_values.specs.Pure.{PureValue}
use Rattle.gil_syntax.specs.Evaluation.{Store, evaluate_all}
use Rattle.gil_syntax.specs.Pure.{PurePredUse, uses}
use Rattle.mem_model.specs.declared.cores.Core.{Core}
use Rattle.mem_model.specs.declared.keys.Key.{Key}
use Rattle.mem_model.specs.declared.keys.MemoryName.{MemoryName}
use Rattle.mem_model.specs.CoreNames.{core_of}
use Rattle.mem_model.specs.Cores.{entry_of, entry_named}
use Rattle.mem_model.specs.Heaps.{Heap, IsHeapOf}
use Rattle.assert_logic.specs.Adding.{with_use, with_item}
use Rattle.assert_logic.specs.LogicStates.{LogicState}
use Rattle.pure_terms.specs.declared.variables.Sort.{Sort}
use Rattle.pure_terms.specs.Meaning.{all_true, IsOver}
use Rattle.pure_terms.specs.Pure.{PureTerm, PureAtom, term_of}
use Rattle.sym_evaluation.specs.Meaning.{HaveValues, IsStoreOver}
use Rattle.sym_evaluation.specs.Plainly.{IsPlain, text_bound}
use Rattle.sym_evaluation.specs.Pure.{PureStore}
use Rattle.sym_evaluation.proofs.AskedAtoms.{one_asked_closed}
use Rattle.sym_model.specs.CoreLaws.{ProduceLaw, ProducesWhatMatters, ProducesNarrowly, MayBeAdded, IsAdded, ArePlainUses}
use Rattle.sym_model.specs.Cores.{produce_asks, produce_depends}
use Rattle.sym_model.specs.Forms.{OpensOnly}
use Rattle.sym_model.specs.Laws.{Serves as MemoryServes, EachTerm, IsDecidedWithin, growth}
use Rattle.sym_model.specs.Lists.{Each, OneOf}
use Rattle.sym_model.specs.Meaning.{is_open, has_open}
use Rattle.sym_model.specs.Plain.{IsPlainState, IsNarrowWithin, IsNarrowState}
use Rattle.sym_model.specs.Pure.{PureBranch}
use Rattle.sym_model.specs.Terms.{StateTerms, all_of, asked_of, IsOwnCondition, IsMadeOf, AreEachOver}
use Rattle.sym_model.proofs.ListLaws.{each_append, each_to, each_flat, each_by_place, each_at, one_left, one_right}
use Rattle.sym_paths.specs.PlainLaws.{IsPlainOver}
use Rattle.sym_paths.specs.Plain.{IsPlainItem}
use Rattle.sym_states.specs.Meaning.{Stands, Serves, IsOverTable}
use Rattle.sym_states.specs.Narrowly.{IsNarrowWith, IsNarrowUse, StaysNarrow}
use Rattle.sym_states.specs.Plainly.{IsPlainWith, ProducesPlainStates, StaysPlain, item_growth}
use Rattle.sym_states.specs.Producing.{IsAskedAmong, AreArguments, IsOwnTo, IsUseAdded, IsNext, IsAfter, DependsOn, NeedsForm, IsCovered, AddsToEach, added_conds, branch_state, unless_open, where_open, PureProduction, placed, divided}
use Rattle.sym_states.specs.Pure.{PureState, PureArguments}
use Rattle.sym_states.proofs.Additions.{use_parts, use_is, IsKeyAdded, key_parts, key_is}
use Rattle.sym_states.proofs.Conditions.{met_parts, met_both, open_right, none_open, added_is}
use Rattle.sym_states.proofs.Narrowness.{narrow_state_up, BranchIsNarrow, narrow_branches, branch_up, none_asked, narrow_arguments}
use Rattle.sym_states.proofs.Plainness.{plain_up, state_up, lower_more, higher_more, below_zero, above_zero}
use Rattle.sym_states.proofs.PureItems.{store_serves, grows}
use Rattle.sym_states.proofs.Values.{only, values_append}

module _ {S : Type 0} (memory : MemoryName) (stands : S → List PureValue → Heap → Type 0) (terms : S → StateTerms) (kept : S → Type 0) (keeps narrows : Type 0) (bs : PureStore) (u : PurePredUse) (s : PureState S)
    (core : Core) (named : core_of u.pred ≡ Some core) (a : PureArguments) (are : AreArguments bs u a) where
  abbrev arguments : List PureTerm
  arguments = a.ins ++ a.outs

  memory_serves : (v : List PureValue) (t : Store) (l : LogicState) (ws us : List PureValue) → Serves stands terms s bs v t l → HaveValues v a.ins ws → HaveValues v a.outs us
      → MemoryServes stands terms s.vars v None arguments s.memory (ws ++ us) l.heap
  memory_serves v t l ws us serves ins outs = record {
    proper = serves.state.proper;
    over = each_append (IsOver s.vars) arguments (all_of (terms s.memory)) (each_append (IsOver s.vars) a.ins a.outs (are.over s.vars serves.store_over).1 (are.over s.vars serves.store_over).2) serves.over.memory;
    fresh_over = tt;
    have_values = values_append v a.ins a.outs ws us ins outs;
    has_heap = serves.state.memory;
  }

  with_core : (l : LogicState) (ws us : List PureValue) → with_use (core_of u.pred) u.pred ws us l ≡ with_use (Some core) u.pred ws us l
  with_core l ws us = ap (λ o. with_use o u.pred ws us l) named

  -- from a plain memory and plain arguments the branch is plain, on decided conditions
  abbrev BranchStaysPlain : PureBranch S → Type 0
  BranchStaysPlain b =
      (low high : ℤ) → IsPlainState memory (terms s.memory) low high → ArePlainUses u.pred a.ins a.outs low high
      → Each (IsDecidedWithin (low -ℤ growth) (high +ℤ growth)) b.conds × IsPlainState memory (terms b.state) (low -ℤ growth) (high +ℤ growth)

  -- from a narrow memory and narrow arguments the branch is narrow
  abbrev BranchStaysNarrow : PureBranch S → Type 0
  BranchStaysNarrow b =
      (low high : ℤ) → IsTrue (bytes_eq u.pred (codes "prop")) → (low ≤ℤ pos 0) × (pos 0 ≤ℤ high) → IsNarrowState (terms s.memory) low high → Each (IsNarrowWithin low high) arguments
      → BranchIsNarrow terms (low -ℤ growth) (high +ℤ growth) b

  -- what the laws of production say of one branch
  record IsLawful (b : PureBranch S) : Type 0 where
    own : Each (IsOwnCondition (asked_of (produce_asks u.pred a.ins a.outs) (terms s.memory))) b.conds
    made : Each (IsMadeOf (arguments ++ all_of (terms s.memory)) None) (all_of (terms b.state))
    over : (vars : List Sort) → AreEachOver vars (arguments ++ all_of (terms s.memory)) → Each (λ c. IsOver vars (term_of c)) b.conds × AreEachOver vars (all_of (terms b.state))
    still_kept : kept s.memory → kept b.state
    still_plain : keeps → BranchStaysPlain b
    still_narrow : narrows → BranchStaysNarrow b
    exact : (vars : List Sort) (v ws : List PureValue) (h : Heap) → MemoryServes stands terms vars v None arguments s.memory ws h → IsTrue (all_true v b.conds) → has_open b.conds ≡ false
        → IsAdded memory stands terms u.pred v ws h b.state
    matters : (vars : List Sort) (v ws : List PureValue) (h : Heap) → MemoryServes stands terms vars v None arguments s.memory ws h → IsTrue (all_true v b.conds)
        → Each (OpensOnly (produce_depends u.pred a.ins a.outs (terms s.memory) v h)) b.conds

  branch_next : (b : PureBranch S) → IsLawful b → IsNext terms bs (uses u) s (branch_state s a b)
  branch_next b law = record {
    more = a.conds ++ b.conds;
    conds = refl;
    own = each_append (IsOwnTo bs (uses u) (terms s.memory)) a.conds b.conds
        (each_to (IsAskedAmong bs (u.ins ++ u.outs)) (IsOwnTo bs (uses u) (terms s.memory)) a.conds (λ c is. inl is) are.asked)
        (each_to (IsOwnCondition (asked_of (produce_asks u.pred a.ins a.outs) (terms s.memory))) (IsOwnTo bs (uses u) (terms s.memory)) b.conds
        (λ c is. inr (a.ins, (a.outs, (are.ins_terms, are.outs_terms, is)))) law.own);
    added = subst (λ (o : Option Core). IsUseAdded terms bs u o s (branch_state s a b)) (sym named) (refl, (a.ins, (a.outs, (are.ins_terms, are.outs_terms, law.made))));
    same_else = refl;
  }

  branch_over : (b : PureBranch S) → IsLawful b → IsOverTable terms s → IsStoreOver s.vars bs → IsOverTable terms (branch_state s a b)
  branch_over b law over store =
      let of_arguments = are.over s.vars store in
      let given = each_append (IsOver s.vars) arguments (all_of (terms s.memory)) (each_append (IsOver s.vars) a.ins a.outs of_arguments.1 of_arguments.2) over.memory in
      let there = law.over s.vars given in
      record {
        conds = each_append (λ c. IsOver s.vars (term_of c)) s.conds (a.conds ++ b.conds) over.conds (each_append (λ c. IsOver s.vars (term_of c)) a.conds b.conds of_arguments.0 there.0);
        given = over.given;
        memory = there.1;
        facts = over.facts;
      }

  branch_exact : (b : PureBranch S) → IsLawful b → (v : List PureValue) (t : Store) (l : LogicState) → Serves stands terms s bs v t l → IsTrue (all_true v (branch_state s a b).conds)
      → has_open (added_conds s (branch_state s a b)) ≡ false → (m : LogicState) × ((with_item t (uses u) l ≡ Some m) × Stands stands (branch_state s a b) v m)
  branch_exact b law v t l serves met none =
      let first = met_parts v s.conds (a.conds ++ b.conds) met in
      let second = met_parts v a.conds b.conds first.1 in
      let closed : has_open (a.conds ++ b.conds) ≡ false = ap has_open (sym (added_is s (branch_state s a b) (a.conds ++ b.conds) refl)) ∙ none in
      let (ws, (us, (ins, outs, have_ins, have_outs))) = are.are s.vars v t (store_serves stands terms s bs v t l serves) second.0 in
      let is : IsAdded memory stands terms u.pred v (ws ++ us) l.heap b.state = law.exact s.vars v (ws ++ us) l.heap (memory_serves v t l ws us serves have_ins have_outs) second.1 (none_open a.conds b.conds closed).1 in
      let entry : entry_of core (ws ++ us) ≡ Some (is.k, is.w) = ap (λ o. entry_named o (ws ++ us)) (sym named) ∙ is.may.entry in (
        record l { heap = insert l.heap is.k is.w },
        (
          use_is t u l ws us ins outs ∙ with_core l ws us ∙ key_is l (entry_of core (ws ++ us)) is.k is.w entry is.may.lacks,
          record {
            proper = serves.state.proper;
            meets = met;
            memory = is.stands_for;
            facts = serves.state.facts;
          },
        ),
      )

  plain_uses : (b c : ℕ) → IsPlainOver s.vars c bs → IsPlainItem (uses u) → c + text_bound ≤ b → ArePlainUses u.pred a.ins a.outs (neg_ℤ (pos b)) (pos b)
  plain_uses b c over item below =
      let there = are.plain s.vars c over item in
      record {
        around_zero = (below_zero b, above_zero b);
        plain_ins = each_to (IsPlain (c + text_bound)) (IsPlain b) a.ins (plain_up (c + text_bound) b below) there.plain_ins;
        plain_outs = each_to (IsPlain (c + text_bound)) (IsPlain b) a.outs (plain_up (c + text_bound) b below) there.plain_outs;
        literal_bound = there.literal_bound;
      }

  abbrev Decided : ℕ → PureAtom → Type 0
  Decided b = IsDecidedWithin (neg_ℤ (pos b)) (pos b)

  branch_plain : (b : PureBranch S) → IsLawful b → keeps → StaysPlain memory terms bs (uses u) s (branch_state s a b)
  branch_plain br law keep b c item over below is =
      let wide : ℕ = b + item_growth in
      let wider : IsPlainWith memory terms wide s = state_up memory terms b wide (grows b) s is in
      let there = law.still_plain keep (neg_ℤ (pos b)) (pos b) is.plain_memory (plain_uses b c over item below) in
      let conds : Each (Decided wide) br.conds =
      subst (λ (n : ℤ). Each (IsDecidedWithin n (pos wide)) br.conds) (lower_more b) (subst (λ (n : ℤ). Each (IsDecidedWithin (neg_ℤ (pos b) -ℤ growth) n) br.conds) (higher_more b) there.0) in
      let state : IsPlainState memory (terms br.state) (neg_ℤ (pos wide)) (pos wide) =
      subst (λ (n : ℤ). IsPlainState memory (terms br.state) n (pos wide)) (lower_more b) (subst (λ (n : ℤ). IsPlainState memory (terms br.state) (neg_ℤ (pos b) -ℤ growth) n) (higher_more b) there.1) in
      record {
        decided = each_append (Decided wide) s.conds (a.conds ++ br.conds) wider.decided
            (each_append (Decided wide) a.conds br.conds (each_to (λ x. ⊥) (Decided wide) a.conds (λ x none. absurd none) (are.plain s.vars c over item).nothing_asked) conds);
        plain_memory = state;
        no_facts = is.no_facts;
      }

  branch_narrow : (b : PureBranch S) → IsLawful b → narrows → StaysNarrow terms bs (uses u) s (branch_state s a b)
  branch_narrow br law keep b item is =
      let wide : ℕ = b + item_growth in
      let wider : IsNarrowWith terms wide s = narrow_state_up terms b wide (grows b) s is in
      let there : BranchIsNarrow terms (neg_ℤ (pos wide)) (pos wide) br =
      branch_up terms b br (law.still_narrow keep (neg_ℤ (pos b)) (pos b) item.of_name (below_zero b, above_zero b) is.narrow_memory (narrow_arguments bs b u a item are)) in
      record {
        decided = each_append (Decided wide) s.conds (a.conds ++ br.conds) wider.decided (each_append (Decided wide) a.conds br.conds (none_asked (Decided wide) bs b u a item are) there.decided);
        narrow_memory = there.memory;
      }

  branch_after : (b : PureBranch S) → IsLawful b → IsAfter memory stands terms kept keeps narrows bs (uses u) s (branch_state s a b)
  branch_after b law = record { next = branch_next b law; over = branch_over b law; still_kept = law.still_kept; still_plain = λ keep. branch_plain b law keep; still_narrow = λ keep. branch_narrow b law keep; exact = branch_exact b law }

  branch_needs : (b : PureBranch S) → IsLawful b → has_open b.conds ≡ true → NeedsForm stands terms bs (uses u) s (branch_state s a b)
  branch_needs b law needs =
      let all : added_conds s (branch_state s a b) ≡ a.conds ++ b.conds = added_is s (branch_state s a b) (a.conds ++ b.conds) refl in
      record {
        needed = ap has_open all ∙ open_right a.conds b.conds needs;
        matters = λ v t l serves met.
            let Right : PureAtom → Type 0 = OpensOnly (DependsOn bs (uses u) (terms s.memory) v l.heap) in
            let second = met_parts v a.conds b.conds (met_parts v s.conds (a.conds ++ b.conds) met).1 in
            let (ws, (us, (ins, outs, have_ins, have_outs))) = are.are s.vars v t (store_serves stands terms s bs v t l serves) second.0 in
            let there = law.matters s.vars v (ws ++ us) l.heap (memory_serves v t l ws us serves have_ins have_outs) second.1 in
            subst (Each Right) (sym all)
            (each_append Right a.conds b.conds
            (each_to (IsAskedAmong bs (u.ins ++ u.outs)) Right a.conds
            (λ c one p is. absurd (true≢false (sym (ap is_open is) ∙ one_asked_closed bs (u.ins ++ u.outs) c one))) are.asked)
            (each_to (OpensOnly (produce_depends u.pred a.ins a.outs (terms s.memory) v l.heap)) Right b.conds
            (λ c only_if p is. (a.ins, (a.outs, (are.ins_terms, are.outs_terms, only_if p is)))) there));
      }

  -- ---- all branches

  abbrev Whole : PureState S → Type 0
  Whole r = OneOf (λ q. IsAfter memory stands terms kept keeps narrows bs (uses u) q r) (s ∷ [])

  abbrev Stopped : PureState S → Type 0
  Stopped r = OneOf (λ q. IsAfter memory stands terms kept keeps narrows bs (uses u) q r × NeedsForm stands terms bs (uses u) q r) (s ∷ [])

  whole_there : (b : PureBranch S) → IsLawful b → Each Whole (unless_open s a b)
  whole_there b law = by (has_open b.conds)
    where
      by : (c : Bool) → Each Whole (if c then [] else (branch_state s a b ∷ []))
      by true = tt
      by false = (inl (branch_after b law), tt)

  stopped_there : (b : PureBranch S) → IsLawful b → Each Stopped (where_open s a b)
  stopped_there b law = by (has_open b.conds) refl
    where
      by : (c : Bool) → has_open b.conds ≡ c → Each Stopped (if c then (branch_state s a b ∷ []) else [])
      by true needs = (inl (branch_after b law, branch_needs b law needs), tt)
      by false needs = tt

  each_whole : (brs : List (PureBranch S)) → Each IsLawful brs → Each Whole (flat_map (unless_open s a) brs)
  each_whole brs laws = each_flat Whole (unless_open s a) brs (each_to IsLawful (λ b. Each Whole (unless_open s a b)) brs whole_there laws)

  each_stopped : (brs : List (PureBranch S)) → Each IsLawful brs → Each Stopped (flat_map (where_open s a) brs)
  each_stopped brs laws = each_flat Stopped (where_open s a) brs (each_to IsLawful (λ b. Each Stopped (where_open s a b)) brs stopped_there laws)

  module _ (v : List PureValue) (l : LogicState) (k : Key) (w : PureValue) (is : Stands stands s v l) (met : IsTrue (all_true v a.conds)) where
    abbrev after : LogicState
    after = record l { heap = insert l.heap k w }

    abbrev Takes : PureBranch S → Type 0
    Takes b = IsTrue (all_true v b.conds) × (IsTrue (has_open b.conds) ⊎ stands b.state v (insert l.heap k w))

    abbrev Is : PureState S → Type 0
    Is r = Stands stands r v after

    abbrev Met : PureState S → Type 0
    Met r = IsTrue (all_true v r.conds)

    abbrev Covered : List (PureState S) → List (PureState S) → Type 0
    Covered whole stopped = OneOf Is whole ⊎ OneOf Met stopped

    all_met : (b : PureBranch S) → IsTrue (all_true v b.conds) → IsTrue (all_true v (branch_state s a b).conds)
    all_met b there = met_both v s.conds (a.conds ++ b.conds) is.meets (met_both v a.conds b.conds met there)

    branch_stands : (b : PureBranch S) → IsTrue (all_true v b.conds) → stands b.state v (insert l.heap k w) → Stands stands (branch_state s a b) v after
    branch_stands b there has = record { proper = is.proper; meets = all_met b there; memory = has; facts = is.facts }

    covered_here : (b : PureBranch S) → Takes b → Covered (unless_open s a b) (where_open s a b)
    covered_here b takes = by (has_open b.conds) refl
      where
        by : (c : Bool) → has_open b.conds ≡ c → Covered (if c then [] else (branch_state s a b ∷ [])) (if c then (branch_state s a b ∷ []) else [])
        by true needs = inr (inl (all_met b takes.0))
        by false needs = inl (inl (branch_stands b takes.0 (⊎_elim (λ form. absurd (true≢false (sym form ∙ needs))) (λ has. has) takes.1)))

    covered : (brs : List (PureBranch S)) → OneOf Takes brs → Covered (flat_map (unless_open s a) brs) (flat_map (where_open s a) brs)
    covered [] one = absurd one
    covered (b ∷ brs) one =
        ⊎_elim
        (λ here. ⊎_elim (λ whole. inl (one_left Is (unless_open s a b) (flat_map (unless_open s a) brs) whole))
        (λ stopped. inr (one_left Met (where_open s a b) (flat_map (where_open s a) brs) stopped)) (covered_here b here))
        (λ later. ⊎_elim (λ whole. inl (one_right Is (unless_open s a b) (flat_map (unless_open s a) brs) whole))
        (λ stopped. inr (one_right Met (where_open s a b) (flat_map (where_open s a) brs) stopped)) (covered brs later))
        one

  -- the states of the branches
  pub adds_key : (brs : List (PureBranch S)) → ProduceLaw memory stands terms u.pred a.ins a.outs s.memory brs → ProducesWhatMatters memory stands terms u.pred a.ins a.outs s.memory brs
      → (kept s.memory → Each (λ b. kept b.state) brs) → (keeps → ProducesPlainStates memory terms u.pred a s.memory brs) → (narrows → ProducesNarrowly terms u.pred a.ins a.outs s.memory brs) → AddsToEach memory stands terms kept keeps narrows bs (uses u) (s ∷ []) (divided s a brs)
  adds_key brs law forms stays plainly narrowly =
      let lawful : Each IsLawful brs = each_by_place IsLawful brs (λ i b at. record {
        own = each_at (λ (c : PureBranch S). Each (IsOwnCondition (asked_of (produce_asks u.pred a.ins a.outs) (terms s.memory))) c.conds) brs i b law.own at;
        made = (each_at (EachTerm terms (IsMadeOf (arguments ++ all_of (terms s.memory)) None)) brs i b law.made at).0;
        over = λ vars over. let there = each_at (λ (c : PureBranch S). Each (λ x. IsOver vars (term_of x)) c.conds × EachTerm terms (IsOver vars) c) brs i b (law.variables vars over tt) at in (there.0, there.1.0);
        still_kept = λ is. each_at (λ (c : PureBranch S). kept c.state) brs i b (stays is) at;
        still_plain = λ keep low high is uses.
            each_at (λ (c : PureBranch S). Each (IsDecidedWithin (low -ℤ growth) (high +ℤ growth)) c.conds × IsPlainState memory (terms c.state) (low -ℤ growth) (high +ℤ growth)) brs i b (plainly keep low high is uses) at;
        still_narrow = λ keep low high prop around is uses.
            each_at (BranchIsNarrow terms (low -ℤ growth) (high +ℤ growth)) brs i b (narrow_branches terms low high brs (narrowly keep low high prop around is uses)) at;
        exact = λ vars v ws h serves. each_at (λ (c : PureBranch S). IsTrue (all_true v c.conds) → has_open c.conds ≡ false → IsAdded memory stands terms u.pred v ws h c.state) brs i b (law.exact vars v ws h serves) at;
        matters = λ vars v ws h serves. each_at (λ (c : PureBranch S). IsTrue (all_true v c.conds) → Each (OpensOnly (produce_depends u.pred a.ins a.outs (terms s.memory) v h)) c.conds) brs i b (forms vars v ws h serves) at;
      }) in
      record {
        cover = λ v t l m here is heap.
            let serves : Serves stands terms s bs v t l = only (λ q. Serves stands terms q bs v t l) s here in
            let (ws, (us, (ins, outs, there))) = use_parts u l m (evaluate_all u.ins t) (evaluate_all u.outs t) is in
            let have = are.have s.vars v t ws us (store_serves stands terms s bs v t l serves) ins outs in
            let key : IsKeyAdded l m (entry_of core (ws ++ us)) = key_parts l m (entry_of core (ws ++ us)) (sym (with_core l ws us) ∙ there) in
            let may : MayBeAdded memory stands terms u.pred (ws ++ us) l.heap key.k key.w = record {
              entry = ap (λ o. entry_named o (ws ++ us)) named ∙ key.entry;
              lacks = key.lacks;
              is_heap = subst (λ (x : LogicState). IsHeapOf memory x.heap) key.is heap;
            } in
            let taken = law.cover s.vars v (ws ++ us) l.heap key.k key.w (memory_serves v t l ws us serves have.1 have.2) may in
            subst (λ (x : LogicState). IsCovered memory stands terms kept keeps narrows bs (uses u) v x (divided s a brs)) (sym key.is) (covered v l key.k key.w serves.state have.0 brs taken);
        whole = each_whole brs lawful;
        stopped = each_stopped brs lawful;
      }

-- ---- one branch more

module _ {S : Type 0} (s : PureState S) (a : PureArguments) (brs : List (PureBranch S)) (b : PureBranch S) where
  more_whole : flat_map (unless_open s a) (brs ++ b ∷ []) ≡ flat_map (unless_open s a) brs ++ unless_open s a b
  more_whole = flat_map-append (unless_open s a) brs (b ∷ []) ∙ ap (λ rs. flat_map (unless_open s a) brs ++ rs) (append-nil (unless_open s a b))

  more_stopped : flat_map (where_open s a) (brs ++ b ∷ []) ≡ flat_map (where_open s a) brs ++ where_open s a b
  more_stopped = flat_map-append (where_open s a) brs (b ∷ []) ∙ ap (λ rs. flat_map (where_open s a) brs ++ rs) (append-nil (where_open s a b))

  pub divided_more : (c : Bool) → has_open b.conds ≡ c
      → divided s a (brs ++ b ∷ []) ≡ record {
        whole = (divided s a brs).whole ++ (if c then [] else (branch_state s a b ∷ []));
        stopped = (divided s a brs).stopped ++ (if c then (branch_state s a b ∷ []) else []);
      }
  divided_more c is = (λ i. record { whole = more_whole i; stopped = more_stopped i }) ∙ ap (λ d. record {
    whole = (divided s a brs).whole ++ (if d then [] else (branch_state s a b ∷ []));
    stopped = (divided s a brs).stopped ++ (if d then (branch_state s a b ∷ []) else []);
  }) is

  abbrev parted : Bool → PureProduction S
  parted c = record {
    whole = (divided s a brs).whole ++ (if c then [] else (branch_state s a b ∷ []));
    stopped = (divided s a brs).stopped ++ (if c then (branch_state s a b ∷ []) else []);
  }

  placed_is : (c : Bool) → placed c (branch_state s a b) (divided s a brs) ≡ parted c
  placed_is true = λ i. record { whole = sym (append-nil (divided s a brs).whole) i; stopped = (divided s a brs).stopped ++ branch_state s a b ∷ [] }
  placed_is false = λ i. record { whole = (divided s a brs).whole ++ branch_state s a b ∷ []; stopped = sym (append-nil (divided s a brs).stopped) i }

  pub divided_placed : (stops : Bool) (r : PureState S) (p : PureProduction S) → has_open b.conds ≡ stops → r ≡ branch_state s a b → p ≡ divided s a brs → placed stops r p ≡ divided s a (brs ++ b ∷ [])
  divided_placed stops r p is is_r is_p = (λ i. placed stops (is_r i) (is_p i)) ∙ placed_is stops ∙ sym (divided_more stops is)
