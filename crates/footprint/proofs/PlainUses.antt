-- What matching plain uses of core predicates leaves is plain.
use Rattle.std.proofs.Common.{◌≡◌, ◌↔◌, ℕ, ◌+◌, ◌^◌, ◌<◌, ◌≤◌, ℤ, pos, neg_ℤ, ◌-ℤ◌, ◌+ℤ◌, List, [], ◌∷◌, ◌++◌, map, Option, Some, None, IsTrue, is_some, refl, sym, ap, subst, ◌∙◌, true≢false, arith}
use Rattle.std.specs.Prelude.{⊤}
use Rattle.gil_syntax.specs.declared.assertions.Param.{Param}
use Rattle.gil_syntax.specs.Pure.{PurePredUse, uses}
use Rattle.mem_model.specs.declared.keys.MemoryName.{MemoryName}
use Rattle.mem_model.specs.CoreNames.{core_of}
use Rattle.pure_terms.specs.Meaning.{IsOver}
use Rattle.pure_terms.specs.Pure.{PureTerm, literal, variable, list_of, unary_of, binary_of, PureTerms, to_list, PureAtom, term_of}
use Rattle.sym_evaluation.specs.Meaning.{IsStoreOver, AreCasesOfAll}
use Rattle.sym_evaluation.specs.Plainly.{IsPlain, IsPlainStore, text_bound}
use Rattle.sym_evaluation.specs.Pure.{PureStore, PureFaultCase, PureGoodCase, PureCases}
use Rattle.sym_evaluation.specs.Questions.{OnConditions, OnResult, AllComeFrom}
use Rattle.sym_evaluation.proofs.PlainTerms.{plain_element}
use Rattle.sym_model.specs.CoreLaws.{ConsumesPlainly}
use Rattle.sym_model.specs.Laws.{IsPlainWithin, IsDecidedWithin, EachTerm, NameNoOthers, growth}
use Rattle.sym_model.specs.Lists.{Each}
use Rattle.sym_model.specs.Plain.{IsPlainState}
use Rattle.sym_model.specs.Pure.{PureResult, done, failed, missed, result_terms, PureBranch}
use Rattle.sym_model.specs.Terms.{StateTerms, all_of, AreEachOver}
use Rattle.sym_model.proofs.ListLaws.{each_append, each_by_place, each_to}
use Rattle.sym_paths.specs.PlainLaws.{PlainExpressionsAskNothing}
use Rattle.sym_paths.specs.Plain.{IsPlainItem}
use Rattle.sym_states.specs.Meaning.{IsOverTable}
use Rattle.sym_states.specs.Producing.{are_spelled}
use Rattle.sym_states.specs.Pure.{PureState}
use Rattle.sym_states.proofs.Plainness.{arguments_ask, number_parts, lower_more, higher_more, below_zero, above_zero}
use Rattle.sym_matching.specs.Plainly.{AreDecided, IsFoundDecided, IsSplitDecided, OutsStayDecided}
use Rattle.sym_matching.specs.Pure.{PureSplit, PureOuts}
use Rattle.sym_matching.proofs.Deciding.{store_up}
use Rattle.footprint.specs.Items.{SpreadsValues, MatchesDone, MatchesResult, branch_state, MatchesBranch}
use Rattle.footprint.specs.Plainly.{IsPlainMemory, IsPlainMatch, ArePlainLeaves, core_growth, match_growth, CoreStaysPlain, ItemStaysPlain}
use Rattle.footprint.specs.Pure.{PureLeaves}
use Rattle.footprint.specs.Spreading.{joined, with_conds, stops_at, spread, all_stop, Gathers}
use Rattle.footprint.specs.Uses.{PureAsked, both_asked, UseStaysPlain}
use Rattle.footprint.proofs.CoreItems.{elements_over}
use Rattle.footprint.proofs.Plainness.{conds_up, stops_plain, small_number, wider, each_both, memory_up, leaves_up, joined_plain, gathered_plain, spread_plain}
use Rattle.sym_paths.specs.Steps.{narrow_bound}

-- ---- what is asked of a use

module _ (b : ℕ) where
  none_decided : (conds : List PureAtom) → Each (λ a. ⊥) conds → AreDecided b conds
  none_decided conds none = each_to (λ a. ⊥) (IsDecidedWithin (neg_ℤ (pos b)) (pos b)) conds (λ a never. absurd never) none

  faults_decided : (faults : List PureFaultCase) → Each (λ c. Each (λ a. ⊥) c.conds) faults → Each (AreDecided b) (map (λ c. c.conds) faults)
  faults_decided [] none = tt
  faults_decided (c ∷ faults) none = (none_decided c.conds none.0, faults_decided faults none.1)

  both_plain : (g : Option (PureGoodCase (List PureTerm))) (h : Option (PureGoodCase PureOuts)) → OnConditions (λ a. ⊥) g → OnResult (Each (IsPlain b)) g → IsFoundDecided {X = PureOuts} (λ outs. ⊤) b h
      → IsFoundDecided {X = PureAsked} (λ a. Each (IsPlain b) a.ins) b (both_asked g h)
  both_plain (Some g) (Some h) none plain is = (each_append (IsDecidedWithin (neg_ℤ (pos b)) (pos b)) g.conds h.conds (none_decided g.conds none) is.0, plain)
  both_plain (Some g) None none plain is = tt
  both_plain None h none plain is = tt

pub use_plain : PlainExpressionsAskNothing → (bs : PureStore) (u : PurePredUse) (cases : PureCases (List PureTerm)) (known : PureSplit PureOuts) → IsTrue (are_spelled u.ins) → AreCasesOfAll bs u.ins cases → AllComeFrom bs u.ins cases → OutsStayDecided bs u.outs known
    → UseStaysPlain bs u (record { found = both_asked cases.good known.found; none = map (λ c. c.conds) cases.faults ++ known.none })
use_plain laws bs u cases known spelled says from outs vars b over item =
    let numbers = number_parts u item in
    let asks = arguments_ask laws bs u.ins cases says from spelled b vars over item.form.ins numbers.0 in
    let are_known = outs vars b over item.form.outs numbers.1 in
    record {
      found = both_plain (b + text_bound) cases.good known.found asks.0.1 asks.1 are_known.found;
      none = each_append (AreDecided (b + text_bound)) (map (λ c. c.conds) cases.faults) known.none (faults_decided (b + text_bound) cases.faults asks.0.0) are_known.none;
    }

-- ---- the core predicate

-- what a list of terms has that is plain
plain_elements : (b : ℕ) (ts : PureTerms) → IsPlain b (list_of ts) → Each (IsPlain b) (to_list ts)
plain_elements b ts plain = each_by_place (IsPlain b) (to_list ts) (λ i u at. plain_element b ts i u plain at)

less : (b : ℕ) → b ≤ b + 10000
less b = omega arith

less_then : (b : ℕ) → b ≤ b + core_growth
less_then b = omega arith

taken_within : (b : ℕ) → b + 10000 ≤ b + core_growth
taken_within b = omega arith

matched_within : (b : ℕ) → (b + 10000) + text_bound ≤ b + core_growth
matched_within b = omega arith

small_there : (b : ℕ) → b + core_growth ≤ narrow_bound → (b + 10000) + text_bound < 2 ^ 127
small_there b narrow = omega (arith, narrow)

stores_up : (b d : ℕ) → b ≤ d → (x : PureSplit PureStore) → IsSplitDecided (IsPlainStore b) d x → IsSplitDecided (IsPlainStore d) d x
stores_up b d le x is = record { found = by x.found is.found; none = is.none }
  where
    by : (o : Option (PureGoodCase PureStore)) → IsFoundDecided (IsPlainStore b) d o → IsFoundDecided (IsPlainStore d) d o
    by None found = tt
    by (Some g) found = (found.0, store_up b d le g.result found.1)

module _ {S : Type 0} (memory : MemoryName) (keeps : Type 0) (terms : S → StateTerms) (n : ℕ) (scope : List Param) (u : PurePredUse) (s : PureState S) (bs : PureStore) (store_over : IsStoreOver s.vars bs) where
  abbrev pub Plain : ℕ → S → Type 0
  Plain = IsPlainMemory memory keeps terms

  stop_plain : (b d : ℕ) → b ≤ d → (q : PureState S) → AreDecided b q.conds → (leaves : PureLeaves S) → leaves ≡ all_stop n q → ArePlainLeaves Plain d leaves
  stop_plain b d le q conds leaves is = subst (ArePlainLeaves Plain d) (sym is) (record { matched = tt; stopped = (conds_up b d le q.conds conds, tt); none_undecided = refl })

  module _ (b : ℕ) (item : IsPlainItem (uses u)) (narrow : b + core_growth ≤ narrow_bound) (from : IsPlainMatch Plain b (record { state = s; store = bs })) where
    abbrev pub w : ℕ
    w = b + 10000

    abbrev pub d : ℕ
    d = b + core_growth

    -- what is known of a branch
    pub record IsPlainBranch (x : PureBranch S) : Type 0 where
      pub conds : AreDecided w x.conds
      pub plain_memory : IsPlainState memory (terms x.state) (neg_ℤ (pos w)) (pos w)
      pub results : Each (IsPlain w) (result_terms x.result)
      pub overs : Each (IsOver s.vars) (result_terms x.result)

    module _ (x : PureBranch S) (is : IsPlainBranch x) where
      abbrev q : PureState S
      q = branch_state s x

      there : IsPlainMatch Plain w (record { state = q; store = bs })
      there = record {
        decided = each_append (IsDecidedWithin (neg_ℤ (pos w)) (pos w)) s.conds x.conds (conds_up b w (less b) s.conds from.decided) is.conds;
        plain_memory = record { keeps_plain = from.plain_memory.keeps_plain; plain = is.plain_memory };
        store = store_up b w (less b) bs from.store;
        few = from.few;
      }

      stopped : (leaves : PureLeaves S) → leaves ≡ all_stop n q → ArePlainLeaves Plain d leaves
      stopped leaves stop = stop_plain w d (taken_within b) q there.decided leaves stop

      outs_plain : (ts : PureTerms) (leaves : PureLeaves S) → IsPlain w (list_of ts) → IsOver s.vars (list_of ts) → SpreadsValues n scope u.outs bs q (to_list ts) leaves → ArePlainLeaves Plain d leaves
      outs_plain ts leaves plain over (split, (says, names, plainly, origin, spreads)) =
          let decided = plainly s.vars w (record { over = store_over; plain = there.store; small = small_there b narrow }) (elements_over s.vars ts over) (plain_elements w ts plain) item.form.outs (number_parts u item).1 in
          subst (ArePlainLeaves Plain d) (sym spreads)
          (leaves_up memory keeps terms (w + text_bound) d (matched_within b) (spread n q split)
          (spread_plain memory keeps terms w (w + text_bound) (wider w) n q bs split there (stores_up w (w + text_bound) (wider w) split decided)))

      done_plain : (t : PureTerm) (leaves : PureLeaves S) → IsPlain w t → IsOver s.vars t → MatchesDone n scope u.outs bs q t leaves → ArePlainLeaves Plain d leaves
      done_plain (list_of ts) leaves plain over matches = outs_plain ts leaves plain over matches
      done_plain (literal l) leaves plain over matches = stopped leaves matches
      done_plain (variable y) leaves plain over matches = stopped leaves matches
      done_plain (unary_of op t) leaves plain over matches = stopped leaves matches
      done_plain (binary_of op t r) leaves plain over matches = stopped leaves matches

      result_plain : (r : PureResult) (leaves : PureLeaves S) → Each (IsPlain w) (result_terms r) → Each (IsOver s.vars) (result_terms r) → MatchesResult n scope u.outs bs q r leaves → ArePlainLeaves Plain d leaves
      result_plain (done t) leaves plain over matches = done_plain t leaves plain.0 over.0 matches
      result_plain (failed t) leaves plain over matches = stopped leaves matches
      result_plain (missed k) leaves plain over matches = stopped leaves matches

    branch_plain : (x : PureBranch S) (leaves : PureLeaves S) → IsPlainBranch x → MatchesBranch n scope u.outs bs s x leaves → ArePlainLeaves Plain d leaves
    branch_plain x leaves is matches = result_plain x is x.result leaves is.results is.overs matches

    pub branches_plain : (branches : List (PureBranch S)) (leaves : PureLeaves S) → Each IsPlainBranch branches → Gathers (MatchesBranch n scope u.outs bs s) branches leaves → ArePlainLeaves Plain d leaves
    branches_plain branches leaves are gathers = gathered_plain memory keeps terms d (MatchesBranch n scope u.outs bs s) IsPlainBranch branch_plain branches leaves are gathers

  module _ (plain : S → ℤ → ℤ → Type 0) (said : (m : S) (low high : ℤ) → plain m low high ↔ IsPlainState memory (terms m) low high) (over : IsOverTable terms s) (ins : List PureTerm) (ins_over : AreEachOver s.vars ins) where
    -- what the law of plain memories says of a branch
    abbrev IsAsPlain : ℕ → PureBranch S → Type 0
    IsAsPlain b x =
        Each (IsDecidedWithin (neg_ℤ (pos b) -ℤ growth) (pos b +ℤ growth)) x.conds
        × (plain x.state (neg_ℤ (pos b) -ℤ growth) (pos b +ℤ growth) × Each (IsPlainWithin (neg_ℤ (pos b) -ℤ growth) (pos b +ℤ growth)) (result_terms x.result))

    -- within bounds on both sides of 0
    bounded : (P : ℤ → ℤ → Type 0) (b : ℕ) → P (neg_ℤ (pos b) -ℤ growth) (pos b +ℤ growth) → P (neg_ℤ (pos (b + 10000))) (pos (b + 10000))
    bounded P b is = subst (λ (low : ℤ). P low (pos (b + 10000))) (lower_more b) (subst (λ (high : ℤ). P (neg_ℤ (pos b) -ℤ growth) high) (higher_more b) is)

    pub core_plain : (branches : List (PureBranch S)) (leaves : PureLeaves S) → (keeps → ConsumesPlainly plain ins s.memory branches) → NameNoOthers terms (ins ++ all_of (terms s.memory)) None branches
        → Gathers (MatchesBranch n scope u.outs bs s) branches leaves → CoreStaysPlain Plain u ins bs s leaves
    core_plain branches leaves plainly names gathers b item narrow from plain_ins =
        let low : ℤ = neg_ℤ (pos b) in
        let high : ℤ = pos b in
        let law : Each (IsAsPlain b) branches = plainly from.plain_memory.keeps_plain low high ((said s.memory low high).1 from.plain_memory.plain) (below_zero b, above_zero b) plain_ins in
        let Named : PureBranch S → Type 0 = λ x. Each (λ a. IsOver s.vars (term_of a)) x.conds × EachTerm terms (IsOver s.vars) x in
        let named : Each Named branches = names s.vars (each_append (IsOver s.vars) ins (all_of (terms s.memory)) ins_over over.memory) tt in
        branches_plain b item narrow from branches leaves
        (each_to (λ x. IsAsPlain b x × Named x) (IsPlainBranch b item narrow from) branches
        (λ x (as_plain, over_x). record {
          conds = bounded (λ least greatest. Each (IsDecidedWithin least greatest) x.conds) b as_plain.0;
          plain_memory = (said x.state (neg_ℤ (pos (b + 10000))) (pos (b + 10000))).0 (bounded (plain x.state) b as_plain.1.0);
          results = bounded (λ least greatest. Each (IsPlainWithin least greatest) (result_terms x.result)) b as_plain.1.1;
          overs = over_x.1.1;
        }) (each_both (IsAsPlain b) Named branches law named))
        gathers

  -- ---- a use

  ask_within : (b : ℕ) → b + text_bound ≤ b + match_growth
  ask_within b = omega arith

  core_within : (b : ℕ) → (b + text_bound) + core_growth ≤ b + match_growth
  core_within b = omega arith

  core_narrow : (b : ℕ) → b + match_growth ≤ narrow_bound → (b + text_bound) + core_growth ≤ narrow_bound
  core_narrow b narrow = omega (arith, narrow)

  module _ (x : PureSplit PureAsked) (plainly : UseStaysPlain bs u x) where
    abbrev faults : PureLeaves S
    faults = record { matched = []; stopped = stops_at n s.conds x.none; undecided = [] }

    pub unasked_plain : ItemStaysPlain Plain (uses u) (record { state = s; store = bs }) faults
    unasked_plain b item narrow from =
        let is = plainly s.vars b (record { over = store_over; plain = from.store; small = small_number b narrow }) item in
        leaves_up memory keeps terms (b + text_bound) (b + match_growth) (ask_within b) faults
        (record { matched = tt; stopped = stops_plain b (b + text_bound) (wider b) n s.conds x.none from.decided is.none; none_undecided = refl })

    pub asked_plain : (g : PureGoodCase PureAsked) → x.found ≡ Some g → (more : PureLeaves S) → CoreStaysPlain Plain u g.result.ins bs (with_conds s g.conds) more
        → ItemStaysPlain Plain (uses u) (record { state = s; store = bs }) (joined faults more)
    asked_plain g is_g more core b item narrow from =
        let c : ℕ = b + text_bound in
        let is = plainly s.vars b (record { over = store_over; plain = from.store; small = small_number b narrow }) item in
        let found : IsFoundDecided {X = PureAsked} (λ a. Each (IsPlain c) a.ins) c (Some g) = subst (IsFoundDecided {X = PureAsked} (λ a. Each (IsPlain c) a.ins) c) is_g is.found in
        let there : IsPlainMatch Plain c (record { state = with_conds s g.conds; store = bs }) = record {
          decided = each_append (IsDecidedWithin (neg_ℤ (pos c)) (pos c)) s.conds g.conds (conds_up b c (wider b) s.conds from.decided) found.0;
          plain_memory = memory_up memory keeps terms b c (wider b) s.memory from.plain_memory;
          store = store_up b c (wider b) bs from.store;
          few = from.few;
        } in
        joined_plain memory keeps terms (b + match_growth) faults more (unasked_plain b item narrow from)
        (leaves_up memory keeps terms (c + core_growth) (b + match_growth) (core_within b) more (core c item (core_narrow b narrow) there found.1))

  -- no core predicate has another name
  pub no_core_plain : core_of u.pred ≡ None → (ins : List PureTerm) (leaves : PureLeaves S) → CoreStaysPlain Plain u ins bs s leaves
  no_core_plain none ins leaves b item narrow from plain_ins = absurd (true≢false (sym item.form.core ∙ ap is_some none))
