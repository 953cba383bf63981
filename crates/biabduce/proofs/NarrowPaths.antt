-- Along paths that begin narrow at commands of narrow form nothing is left undecided.
use Rattle.std.proofs.Common.{◌≡◌, ◌⊎◌, ⊎_elim, inl, inr, ℕ, suc, ◌+◌, ◌<◌, ◌≤◌, ◌^◌, pos, neg_ℤ, ℤ, List, [], ◌∷◌, ◌++◌, length, slice_get, true, Option, Some, None, IsSome, IsTrue, refl, sym, ap, subst, ◌∙◌, true≢false, arith}
use Rattle.std.specs.List.{list_all}
use Rattle.std.specs.Option.{option_map, option_or}
use Rattle.std.proofs.lemmas.List.{append-nil, length-map}
use Rattle.gil_values.specs.declared.places.Place.{Place}
use Rattle.gil_values.specs.Pure.{PureValue}
use Rattle.gil_values.proofs.OperatorSymbols.{none_contained}
use Rattle.gil_syntax.specs.Programs.{find_proc}
use Rattle.gil_syntax.specs.Pure.{PureProc, PureParts, PureNumberedCommand}
use Rattle.gil_syntax.specs.Simple.{is_narrow_command}
use Rattle.gil_machine.specs.Step.{command_of}
use Rattle.mem_model.specs.declared.keys.MemoryName.{MemoryName}
use Rattle.mem_model.specs.Actions.{Actions}
use Rattle.mem_model.specs.Heaps.{Heap}
use Rattle.inferred_specs.specs.Inferred.{PureFound}
use Rattle.pure_terms.specs.declared.queries.Query.{Query}
use Rattle.pure_terms.specs.declared.variables.Sort.{Sort}
use Rattle.pure_terms.specs.declared.variables.Var.{Var}
use Rattle.pure_terms.specs.EqualityLaws.{same_sorts}
use Rattle.pure_terms.specs.Fragment.{has_fragment_form}
use Rattle.pure_terms.specs.Kinds.{same_sort}
use Rattle.pure_terms.specs.Meaning.{IsOver}
use Rattle.pure_terms.specs.Pure.{PureTerm, literal, variable, list_of, unary_of, binary_of}
use Rattle.pure_terms.proofs.KindLaws.{over_variable}
use Rattle.sym_engine.specs.Narrow.{IsNarrow, IsNarrowEnd, IsNarrowPath}
use Rattle.sym_engine.proofs.NarrowTerms.{narrow_up}
use Rattle.sym_evaluation.specs.Plainly.{text_bound}
use Rattle.sym_step.specs.Exploring.{IsEndedFrom}
use Rattle.sym_step.specs.Narrow.{IsAtNarrow, grown_narrowly, IsNarrowFrom, IsNarrowEndedFrom}
use Rattle.sym_step.specs.Trails.{IsTrail}
use Rattle.sym_step.proofs.Kept.{trails_keep}
use Rattle.sym_step.proofs.Narrow.{trails_stay_narrow}
use Rattle.sym_model.specs.Laws.{IsDecidedWithin}
use Rattle.sym_model.specs.Lists.{Each}
use Rattle.sym_model.specs.Plain.{is_narrow, IsNarrowKey}
use Rattle.sym_model.specs.Pure.{PureSub, named, cell, shape, bound, dom, proto, gone, PureKey, sub_terms}
use Rattle.sym_model.specs.Terms.{StateTerms, AreEachOver}
use Rattle.sym_model.proofs.ListLaws.{not_none, each_to, each_append, each_left, each_right}
use Rattle.sym_paths.specs.Meaning.{OfEachName, command_of_frames, end_terms}
use Rattle.sym_paths.specs.Pure.{PureFrame, PureEnd, returned, failed, threw, missed, vanished, cut, unknown, PurePath}
use Rattle.sym_paths.specs.Steps.{IsUnknown, narrow_bound}
use Rattle.sym_paths.proofs.Beginning.{first_each}
use Rattle.sym_engine.proofs.Plain.{atom_up}
use Rattle.bi_beginnings.specs.Beginnings.{any_for_each, variables_from, first_beginning, PureBeginning, IsOpening, BeginsExactly}
use Rattle.bi_beginnings.specs.Narrowly.{IsAny, IsNarrowCoreUse, IsNarrowBeginning, begun_bound, IsSymbolTaken, IsLarger, BeginsNarrow}
use Rattle.bi_beginnings.proofs.Params.{all_at, proc_at}
use Rattle.bi_beginnings.proofs.Tables.{over_variable as variable_over}
use Rattle.bi_specifications.specs.Shape.{MayBeSaid}
use Rattle.bi_specifications.specs.Specified.{PureEntry}
use Rattle.bi_specifications.proofs.Grown.{IsGrown, ended_grown, ended_drew, all_fresh}
use Rattle.bi_specifications.proofs.Naming.{at_left, at_right, at_either}
use Rattle.biabduce.specs.Narrowly.{IsNarrowEntry, numbers_at, IsNarrowLeft, IsNarrowlyDecided, StaysNarrowlyDecided, IsNarrowAlong, StartsNarrowly, IsNarrowlyClosed, BeginsNarrowly, LeavesAlone}
use Rattle.biabduce.specs.Sound.{PureInference}
use Rattle.biabduce.specs.View.{asked_view}
use Rattle.biabduce.proofs.Decided.{none_of}

-- ---- larger numbers

beginning_up : (n k : ℕ) → n ≤ k → (b : PureBeginning) → IsNarrowBeginning n b → IsNarrowBeginning k b
beginning_up n k le b is = record {
  sorts = is.sorts;
  few = is.few;
  uses = each_to (IsNarrowCoreUse n) (IsNarrowCoreUse k) b.uses (λ u narrow. record { of_name = narrow.of_name; terms = each_to (IsNarrow n) (IsNarrow k) (u.ins ++ u.outs) (narrow_up n k le) narrow.terms }) is.uses;
  decided = each_to (IsDecidedWithin (neg_ℤ (pos n)) (pos n)) (IsDecidedWithin (neg_ℤ (pos k)) (pos k)) b.conds (atom_up n k le) is.decided;
}

key_up : (n k : ℕ) → n ≤ k → (loc : PureTerm) (sub : PureSub) → IsNarrowKey (neg_ℤ (pos n)) (pos n) loc sub → IsNarrowKey (neg_ℤ (pos k)) (pos k) loc sub
key_up n k le loc (named p) is = (narrow_up n k le loc is.0, narrow_up n k le p is.1)
key_up n k le loc (cell p) is = absurd is
key_up n k le loc shape is = absurd is
key_up n k le loc bound is = absurd is
key_up n k le loc dom is = absurd is
key_up n k le loc proto is = absurd is
key_up n k le loc gone is = absurd is

-- ---- narrow programs

module _ (p : PureParts) (narrow : list_all (λ q. list_all (λ c. is_narrow_command c.command) q.body) p.procs ≡ true) where
  narrow_of : (f : List ℕ) (o : Option PureProc) (i : ℕ) (c : PureNumberedCommand) → find_proc p.procs f ≡ o → command_of o i ≡ Some c → is_narrow_command c.command ≡ true
  narrow_of f (Some q) i c found at =
      let (j, there) = proc_at p.procs f q found in
      all_at (λ d. is_narrow_command d.command) q.body i c at (all_at (λ r. list_all (λ d. is_narrow_command d.command) r.body) p.procs j q there narrow)
  narrow_of f None i c found at = not_none at

  narrow_there : (frames : List PureFrame) (c : PureNumberedCommand) → command_of_frames p frames ≡ Some c → is_narrow_command c.command ≡ true
  narrow_there [] c at = not_none at
  narrow_there (frame ∷ frames) c at = narrow_of frame.procedure (find_proc p.procs frame.procedure) frame.next c refl at

  -- each command on a trail is of narrow form
  each_narrow : {S : Type 0} (m : Actions) (stands : S → List PureValue → Heap → Type 0) (terms : S → StateTerms) (asked : List ℕ → List PureTerm → List PureTerm × List PureTerm) (start path : PurePath S)
      (earlier : List (PurePath S)) → IsTrail p m stands terms asked start earlier path → Each (IsAtNarrow p) earlier
  each_narrow m stands terms asked start path [] trail = tt
  each_narrow m stands terms asked start path (before ∷ earlier) (next, trail) =
      let (c, at) = next.at_command in
      ((c, (at, narrow_there before.stack c at)), each_narrow m stands terms asked start before earlier trail)

-- ---- variables of parameters

any_narrow : (n k : ℕ) (params : List (List ℕ)) → Each (IsNarrow n) (variables_from k (any_for_each params))
any_narrow n k [] = tt
any_narrow n k (x ∷ params) = ((refl, refl), any_narrow n (suc k) params)

-- ---- where terms of a missed key come from

module _ (first more : List Sort) (fresh : list_all (same_sort Sort.Fresh) more ≡ true) where
  abbrev IsPlaced : PureTerm → Type 0
  IsPlaced t = IsOver first t ⊎ IsSymbolTaken (first ++ more) t

  variable_placed : (x : Var) → slice_get (first ++ more) x.number ≡ Some x.sort → IsPlaced (variable x)
  variable_placed x at =
      ⊎_elim
      (λ (early : x.number < length first). inl (variable_over first x (sym (at_left first more x.number early) ∙ at)))
      (λ (late : (j : ℕ) × (x.number ≡ length first + j)).
      let in_more : slice_get more late.0 ≡ Some x.sort = sym (at_right first more late.0) ∙ ap (slice_get (first ++ more)) (sym late.1) ∙ at in
      let sort : Sort.Fresh ≡ x.sort = same_sorts Sort.Fresh x.sort (all_at (same_sort Sort.Fresh) more late.0 x.sort in_more fresh) in
      inr (x, (refl, at ∙ ap Some (sym sort))))
      (at_either first more x.number)

  -- a narrow term was there at the beginning, or is a symbol that the run took
  placed : (t : PureTerm) → is_narrow t ≡ true → IsOver (first ++ more) t → IsPlaced t
  placed (literal l) narrow over = inl (λ x has. absurd (none_contained x has))
  placed (variable x) narrow over = variable_placed x (over_variable (first ++ more) x over)
  placed (list_of ts) narrow over = absurd (true≢false (sym narrow))
  placed (unary_of op t) narrow over = absurd (true≢false (sym narrow))
  placed (binary_of op s t) narrow over = absurd (true≢false (sym narrow))

  key_placed : (n : ℕ) (loc : PureTerm) (sub : PureSub) → IsNarrowKey (neg_ℤ (pos n)) (pos n) loc sub → AreEachOver (first ++ more) (loc ∷ sub_terms sub) → Each IsPlaced (loc ∷ sub_terms sub)
  key_placed n loc (named p) narrow over = (placed loc narrow.0.0 over.0, (placed p narrow.1.0 over.1.0, tt))
  key_placed n loc (cell p) narrow over = absurd narrow
  key_placed n loc shape narrow over = absurd narrow
  key_placed n loc bound narrow over = absurd narrow
  key_placed n loc dom narrow over = absurd narrow
  key_placed n loc proto narrow over = absurd narrow
  key_placed n loc gone narrow over = absurd narrow

-- ---- explored paths

module _ {S : Type 0} (p : PureParts) (memory : MemoryName) (m : Actions) (stands : S → List PureValue → Heap → Type 0) (terms : S → StateTerms)
    (asked : List ℕ → List PureTerm → List PureTerm × List PureTerm) (depends : S → List ℕ → List PureTerm → List PureValue → Heap → PureTerm → Type 0) (plain : S → ℤ → ℤ → Type 0) (keeps_plain : Type 0)
    (kept : S → Type 0) (q : PureProc) (b : PureBeginning) (start : PurePath S) (opening : IsOpening stands terms kept q start) (n : ℕ) (few : n ≤ 10000) (left : IsNarrowLeft q n b)
    (starts : StartsNarrowly terms b start) where
  -- the numbers with which the path begins, and those that it may have at its end
  abbrev first : ℕ
  first = begun_bound (numbers_at (length b.uses)) b

  abbrev last : ℕ
  last = numbers_at (length b.uses + 1)

  going : start.ending ≡ None
  going = ap (λ (x : PurePath S). x.ending) opening.begins.is

  no_steps : start.steps ≡ 0
  no_steps = ap (λ (x : PurePath S). x.steps) opening.begins.is

  start_narrow : IsNarrowPath terms first start
  start_narrow =
      let vars : length start.vars ≤ 2 ^ 39 = starts.begins.few in
      record {
        stores = subst (Each (λ f. OfEachName (IsNarrow first) f.store)) (sym (ap (λ (x : PurePath S). x.stack) opening.begins.is))
            (first_each (IsNarrow first) q.params (variables_from 0 (any_for_each q.params)) opening.begins.store opening.begins.first (any_narrow first 0 q.params), tt);
        memory = starts.begins.narrow_memory;
        conds = starts.begins.decided;
        ending = subst (IsNarrowEnd first) (sym going) tt;
        few_variables = omega (arith, vars);
      }

  enough : text_bound ≤ first
  enough = omega arith

  module _ (r : PurePath S) (come : IsNarrowFrom p m stands terms asked depends plain keeps_plain n start r) (narrow : Each (IsAtNarrow p) come.from.earlier) where
    counted : length come.from.earlier ≤ n
    counted =
        let all : r.steps ≡ start.steps + length come.from.earlier = (trails_keep p m stands terms asked).steps start r come.from.earlier come.from.trail in
        let within : r.steps ≤ n = come.from.within in
        let none : start.steps ≡ 0 = no_steps in
        omega (arith, all, within, none)

    -- the numbers stay those of the next round
    no_more : grown_narrowly (length come.from.earlier) first ≤ last
    no_more = let within : length come.from.earlier ≤ n = counted in omega (arith, within, few, left.within)

    small : grown_narrowly (length come.from.earlier) first ≤ narrow_bound
    small = let all : grown_narrowly (length come.from.earlier) first ≤ last = no_more in omega (arith, all, few, left.within)

    is_known : ¬ IsUnknown r.ending
    is_known =
        (trails_stay_narrow p m stands terms asked).known start r come.from.earlier first come.from.trail come.narrow narrow enough small start_narrow
        (λ unknown. subst IsUnknown going unknown)

    is_narrow_path : IsNarrowPath terms (grown_narrowly (length come.from.earlier) first) r
    is_narrow_path = (trails_stay_narrow p m stands terms asked).narrow_path start r come.from.earlier first come.from.trail come.narrow narrow enough small start_narrow

    are_decided : Each (IsDecidedWithin (neg_ℤ (pos last)) (pos last)) r.conds
    are_decided =
        let k : ℕ = grown_narrowly (length come.from.earlier) first in
        each_to (IsDecidedWithin (neg_ℤ (pos k)) (pos k)) (IsDecidedWithin (neg_ℤ (pos last)) (pos last)) r.conds (atom_up k last no_more) is_narrow_path.conds

    missed_narrow : (key : PureKey) (place : Place) → r.ending ≡ Some (missed key place) → IsNarrowKey (neg_ℤ (pos last)) (pos last) key.loc key.sub
    missed_narrow key place is =
        let k : ℕ = grown_narrowly (length come.from.earlier) first in
        key_up k last no_more key.loc key.sub (subst (IsNarrowEnd k) is is_narrow_path.ending)

  -- the commands on the way to the end have narrow forms
  abbrev pub Along : (path : PurePath S) → IsNarrowEndedFrom p m stands terms asked depends plain keeps_plain n start path → Type 0
  Along path ended = IsNarrowAlong p m stands terms asked depends plain keeps_plain n start path ended

  module _ (path : PurePath S) (ended : IsNarrowEndedFrom p m stands terms asked depends plain keeps_plain n start path) (narrow : Along path ended) where
    pub known_end : ¬ IsUnknown path.ending
    known_end = by ended narrow
      where
        by : (x : IsNarrowEndedFrom p m stands terms asked depends plain keeps_plain n start path) → Along path x → ¬ IsUnknown path.ending
        by (inl (come, some)) along = is_known path come along
        by (inr (before, (come, goes, steps, is))) along = λ unknown. subst IsUnknown (ap (λ (x : PurePath S). x.ending) is) unknown

    all_decided : Each (IsDecidedWithin (neg_ℤ (pos last)) (pos last)) path.conds
    all_decided = by ended narrow
      where
        by : (x : IsNarrowEndedFrom p m stands terms asked depends plain keeps_plain n start path) → Along path x → Each (IsDecidedWithin (neg_ℤ (pos last)) (pos last)) path.conds
        by (inl (come, some)) along = are_decided path come along
        by (inr (before, (come, goes, steps, is))) along = subst (λ (x : PurePath S). Each (IsDecidedWithin (neg_ℤ (pos last)) (pos last)) x.conds) (sym is) (are_decided before come along)

    narrow_key : (key : PureKey) (place : Place) → path.ending ≡ Some (missed key place) → IsNarrowKey (neg_ℤ (pos last)) (pos last) key.loc key.sub
    narrow_key key place at = by ended narrow
      where
        by : (x : IsNarrowEndedFrom p m stands terms asked depends plain keeps_plain n start path) → Along path x → IsNarrowKey (neg_ℤ (pos last)) (pos last) key.loc key.sub
        by (inl (come, some)) along = missed_narrow path come along key place at
        by (inr (before, (come, goes, steps, is))) along = let no : Some cut ≡ Some (missed key place) = sym (ap (λ (x : PurePath S). x.ending) is) ∙ at in absurd (cc)

    pub plain_ended : IsEndedFrom p m stands terms asked depends plain keeps_plain n start path
    plain_ended = by ended
      where
        by : IsNarrowEndedFrom p m stands terms asked depends plain keeps_plain n start path → IsEndedFrom p m stands terms asked depends plain keeps_plain n start path
        by (inl (come, some)) = inl (come.from, some)
        by (inr (before, (come, goes, steps, is))) = inr (before, (come.from, goes, steps, is))

    has_grown : IsGrown terms start path
    has_grown = ended_grown p m stands terms asked start depends plain keeps_plain n path opening.over opening.is_met known_end plain_ended

    pub may_be_said : (e : PureEntry) → IsNarrowEntry memory q → MayBeSaid q e path
    may_be_said e entry = record {
      no_result = entry.no_result;
      over = has_grown.over.conds;
      forms = each_to (IsDecidedWithin (neg_ℤ (pos last)) (pos last)) (λ a. IsTrue (has_fragment_form a)) path.conds (λ a is. is.0) all_decided;
    }

    module _ (entry : IsNarrowEntry memory q) (no_draw : path.drawn ≡ []) where
      -- the table is that of the beginning, and behind it new symbols
      key_there : (key : PureKey) (place : Place) → path.ending ≡ Some (missed key place) → Each (λ t. IsOver b.vars t ⊎ IsSymbolTaken path.vars t) (key.loc ∷ sub_terms key.sub)
      key_there key place at =
          let drew = ended_drew p m stands terms asked start (ap (λ (x : PurePath S). x.drawn) opening.begins.is) depends plain keeps_plain n path plain_ended in
          let fresh : list_all (same_sort Sort.Fresh) drew.more ≡ true = all_fresh (length start.vars) drew.more (sym drew.drawn ∙ no_draw) in
          let vars : path.vars ≡ b.vars ++ drew.more = drew.vars ∙ ap (λ xs. xs ++ drew.more) starts.table in
          let over = subst (λ o. AreEachOver path.vars (end_terms o)) at has_grown.over.ending in
          subst (λ xs. Each (λ t. IsOver b.vars t ⊎ IsSymbolTaken xs t) (key.loc ∷ sub_terms key.sub)) (sym vars)
          (key_placed b.vars drew.more fresh last key.loc key.sub (narrow_key key place at) (subst (λ xs. AreEachOver xs (key.loc ∷ sub_terms key.sub)) vars over))

      -- it is known, and what it missed is a narrow name
      pub narrowly_closed : IsNarrowlyClosed memory last b path.vars path.conds path.ending
      narrowly_closed = by path.ending refl
        where
          by : (o : Option PureEnd) → path.ending ≡ o → IsNarrowlyClosed memory last b path.vars path.conds o
          by (Some (missed key place)) is =
              let vars : length b.vars ≡ length q.params + length b.uses = left.vars in
              let params : length q.params ≤ 2 ^ 38 = entry.few_params in
              record {
                has_names = entry.has_names;
                before = beginning_up (numbers_at (length b.uses)) last (omega arith) b left.narrow;
                few = omega (arith, vars, params, left.within, few);
                decided = all_decided;
                narrow_key = narrow_key key place is;
                placed = key_there key place is;
              }
          by (Some (unknown place reason)) is = absurd (known_end (subst IsUnknown (sym is) tt))
          by (Some (returned t)) is = tt
          by (Some (failed t place)) is = tt
          by (Some (threw t place)) is = tt
          by (Some vanished) is = tt
          by (Some cut) is = tt
          by None is = tt

-- in a narrow program all commands on the way have narrow forms
pub all_along : {S : Type 0} (p : PureParts) (narrow : list_all (λ q. list_all (λ c. is_narrow_command c.command) q.body) p.procs ≡ true) (memory : MemoryName) (m : Actions) (stands : S → List PureValue → Heap → Type 0)
    (terms : S → StateTerms) (asked : List ℕ → List PureTerm → List PureTerm × List PureTerm) (depends : S → List ℕ → List PureTerm → List PureValue → Heap → PureTerm → Type 0) (plain : S → ℤ → ℤ → Type 0) (keeps_plain : Type 0)
    (kept : S → Type 0) (q : PureProc) (b : PureBeginning) (start : PurePath S) (opening : IsOpening stands terms kept q start) (n : ℕ) (few : n ≤ 10000) (left : IsNarrowLeft q n b) (starts : StartsNarrowly terms b start)
    (path : PurePath S) (ended : IsNarrowEndedFrom p m stands terms asked depends plain keeps_plain n start path)
    → Along p memory m stands terms asked depends plain keeps_plain kept q b start opening n few left starts path ended
all_along p narrow memory m stands terms asked depends plain keeps_plain kept q b start opening n few left starts path (inl (come, some)) = each_narrow p narrow m stands terms asked start path come.from.earlier come.from.trail
all_along p narrow memory m stands terms asked depends plain keeps_plain kept q b start opening n few left starts path (inr (before, (come, goes, steps, is))) = each_narrow p narrow m stands terms asked start before come.from.earlier come.from.trail

-- ---- starts

-- the numbers with which paths begin are those of the fragment
pub begun_small : (q : PureProc) (n : ℕ) (b : PureBeginning) → IsNarrowLeft q n b → n ≤ 10000 → begun_bound (numbers_at (length b.uses)) b ≤ narrow_bound
begun_small q n b left few = omega (arith, left.within, few)

pub start_narrowly : {S : Type 0} (stands : S → List PureValue → Heap → Type 0) (terms : S → StateTerms) (b : PureBeginning) (starts : List (PurePath S)) → Each (BeginsExactly stands b) starts
    → Each (BeginsNarrow terms (begun_bound (numbers_at (length b.uses)) b)) starts → Each (StartsNarrowly terms b) starts
start_narrowly stands terms b [] exact narrow = tt
start_narrowly stands terms b (start ∷ starts) exact narrow = (record { table = exact.0.table; begins = narrow.0 }, start_narrowly stands terms b starts exact.1 narrow.1)

-- ---- inference under way

-- the first beginning is narrow
pub first_left : (q : PureProc) (n : ℕ) → length q.params ≤ 2 ^ 38 → IsNarrowLeft q n (first_beginning q)
first_left q n few =
    let many : length (any_for_each q.params) ≡ length q.params = length-map q.params (λ x. Sort.Any) in
    record {
      narrow = record { sorts = all_any q.params; few = omega (arith, many, few); uses = tt; decided = tt };
      vars = omega (arith, many);
      within = omega arith;
    }
  where
    all_any : (params : List (List ℕ)) → Each IsAny (any_for_each params)
    all_any [] = tt
    all_any (x ∷ params) = (refl, all_any params)

pub first_narrowly : (q : PureProc) (n : ℕ) (i : PureInference) → length q.params ≤ 2 ^ 38 → i ≡ record { left = first_beginning q ∷ []; founds = []; undecided = None } → IsNarrowlyDecided q n i
first_narrowly q n i few is = subst (IsNarrowlyDecided q n) (sym is) (record { left = (first_left q n few, tt); decided = refl })

-- what is begun besides a narrow beginning is narrow
pub larger_left : (q : PureProc) (n : ℕ) (b : PureBeginning) → IsNarrowLeft q n b → (c : PureBeginning) → IsNarrowBeginning (numbers_at (length b.uses + 1)) c × IsLarger n b c → IsNarrowLeft q n c
larger_left q n b left c (narrow, is) =
    let uses : length c.uses ≡ length b.uses + 1 = is.uses in
    let vars : length c.vars ≡ length b.vars + 1 = is.vars in
    let before : length b.vars ≡ length q.params + length b.uses = left.vars in
    record {
      narrow = subst (λ k. IsNarrowBeginning (numbers_at k) c) (sym uses) narrow;
      vars = omega (arith, uses, vars, before);
      within = is.within;
    }

pub begun_narrowly : (q : PureProc) (n : ℕ) (b : PureBeginning) (i j : PureInference) → IsNarrowLeft q n b → BeginsNarrowly (numbers_at (length b.uses + 1)) n b i j → StaysNarrowlyDecided q n i j
begun_narrowly q n b i j left begins decided = record {
  left = subst (Each (IsNarrowLeft q n)) (sym begins.left) (each_append (IsNarrowLeft q n) i.left begins.more decided.left
      (each_to (λ c. IsNarrowBeginning (numbers_at (length b.uses + 1)) c × IsLarger n b c) (IsNarrowLeft q n) begins.more (larger_left q n b left) begins.each));
  decided = begins.undecided ∙ decided.decided;
}

pub left_alone : (q : PureProc) (n : ℕ) (i j : PureInference) → LeavesAlone i j → StaysNarrowlyDecided q n i j
left_alone q n i j alone decided = record { left = subst (Each (IsNarrowLeft q n)) (sym alone.left) decided.left; decided = alone.undecided ∙ decided.decided }

pub any_narrowly : (q : PureProc) (n : ℕ) (i j : PureInference) (o : Option Query) → j ≡ record i { undecided = option_or i.undecided (option_map asked_view o) } → ¬ (IsSome o) → StaysNarrowlyDecided q n i j
any_narrowly q n i j o is none decided =
    subst (IsNarrowlyDecided q n) (sym is)
    (record { left = decided.left; decided = (λ k. option_or (decided.decided k) (option_map asked_view o)) ∙ none_of o none })

-- the last beginning is taken out
pub taken_narrowly : (q : PureProc) (n : ℕ) (i : PureInference) (rest : List PureBeginning) (b : PureBeginning) → i.left ≡ rest ++ b ∷ [] → IsNarrowlyDecided q n i → IsNarrowLeft q n b × IsNarrowlyDecided q n (record i { left = rest })
taken_narrowly q n i rest b is decided =
    let all = subst (Each (IsNarrowLeft q n)) is decided.left in
    ((each_right (IsNarrowLeft q n) rest (b ∷ []) all).0, record { left = each_left (IsNarrowLeft q n) rest (b ∷ []) all; decided = decided.decided })

-- ---- what is told, and begun

pub told_alone : (i j : PureInference) (found : PureFound) → j ≡ record i { founds = i.founds ++ found ∷ [] } → LeavesAlone i j
told_alone i j found is = record { left = ap (λ (x : PureInference). x.left) is; undecided = ap (λ (x : PureInference). x.undecided) is }

pub same_alone : (i : PureInference) → LeavesAlone i i
same_alone i = record { left = refl; undecided = refl }

pub nothing_begun : (k n : ℕ) (b : PureBeginning) (i : PureInference) → BeginsNarrowly k n b i i
nothing_begun k n b i = record { more = []; left = sym (append-nil i.left); undecided = refl; each = tt }

pub begun_more : (k n : ℕ) (b : PureBeginning) (i j : PureInference) (more : List PureBeginning) → j ≡ record i { left = i.left ++ more } → Each (λ c. IsNarrowBeginning k c × IsLarger n b c) more → BeginsNarrowly k n b i j
begun_more k n b i j more is all = record { more = more; left = ap (λ (x : PureInference). x.left) is; undecided = ap (λ (x : PureInference). x.undecided) is; each = all }

pub alone_begun : (k n : ℕ) (b : PureBeginning) (i j : PureInference) → LeavesAlone i j → BeginsNarrowly k n b i j
alone_begun k n b i j alone = record { more = []; left = alone.left ∙ sym (append-nil i.left); undecided = alone.undecided; each = tt }
