-- Adding the cases of a predicate to a state of terms, over larger tables.
use Rattle.std.proofs.Common.{◌≡◌, ◌⊎◌, ⊎_elim, inl, inr, ℕ, zero, suc, ◌+◌, ◌-◌, ◌<◌, length-drop, List, [], ◌∷◌, ◌++◌, map, take, drop, get_or, length, slice_get, Bool, true, false, not, ◌&&◌, Some, None, Result, Ok, Err, IfOk, IsTrue, refl, sym, ap, subst, ◌∙◌, append_assoc, true≢false, arith}
use Rattle.std.specs.Str.{bytes_eq}
use Rattle.std.proofs.lemmas.List.{append-nil, take_more, take_all, take-map, drop-map, map-append}
use Rattle.std.proofs.lemmas.List.Folds.{list_any-append}
use Rattle.std.proofs.lemmas.Option.{slice_get_within}
use Rattle.gil_values.specs.Pure.{PureValue}
use Rattle.gil_syntax.specs.declared.assertions.Param.{Param}
use Rattle.gil_syntax.specs.Evaluation.{Store, value_of}
use Rattle.gil_syntax.specs.Pure.{PureItem}
use Rattle.gil_syntax.specs.Valid.{is_among}
use Rattle.mem_model.specs.declared.keys.MemoryName.{MemoryName}
use Rattle.mem_model.specs.Heaps.{Heap}
use Rattle.assert_logic.specs.Adding.{IsAdding}
use Rattle.assert_logic.specs.LogicStates.{Fact, LogicState}
use Rattle.assert_logic.specs.Names.{named_by_items}
use Rattle.assert_logic.specs.Sorts.{fits_sorts}
use Rattle.pure_terms.specs.declared.variables.Sort.{Sort}
use Rattle.pure_terms.specs.Laws.{AgreeOn}
use Rattle.pure_terms.specs.Meaning.{both, values, all_true, IsProper, IsOver}
use Rattle.pure_terms.specs.Pure.{PureTerm, PureAtom, term_of, from_list, variables}
use Rattle.pure_terms.proofs.VariableLaws.{slice_get-append, stay_when_tables_grow}
use Rattle.sym_evaluation.specs.Meaning.{IsStoreOver, StandsFor}
use Rattle.sym_evaluation.specs.Pure.{PureStore}
use Rattle.sym_model.specs.Laws.{IsMeaning}
use Rattle.sym_model.specs.Lists.{Each, OneOf}
use Rattle.sym_model.specs.Meaning.{is_open, has_open}
use Rattle.sym_model.specs.Terms.{StateTerms, all_of, AreEachOver}
use Rattle.sym_model.proofs.ListLaws.{same_some, not_none, each_append, each_left, each_right, each_to, each_map, one_left, one_right, one_map, one_to}
use Rattle.sym_states.specs.Naming.{PureNamed, MayName, IsNamedAs, IsNaming, NamesAll}
use Rattle.sym_states.proofs.NamingLaws.{proper_sorts, store_longer}
use Rattle.sym_states.proofs.AddedNames.{added_known, added_same}
use Rattle.sym_states.proofs.Names.{or_left, or_right, same_name}
use Rattle.sym_states.proofs.Conditions.{none_open}
use Rattle.sym_states.specs.Laws.{ComeFromItems}
use Rattle.sym_states.specs.Meaning.{Stands, Serves, IsOverTable, AreFacts}
use Rattle.sym_states.specs.Producing.{IsProduced, is_begun, is_added, IsStopped, added_conds}
use Rattle.sym_states.specs.Pure.{PureFact, PureState}
use Rattle.sym_unfolding.specs.Adding.{AddsOver, MayBeAdded, IsAddedAs, IsBefore, AddsExactly, AddsItems, AddsCases, IsCaseAddedFrom, numbered}
use Rattle.sym_unfolding.specs.Further.{IsFurther}
use Rattle.sym_unfolding.specs.Origins.{IsAddedFrom}
use Rattle.sym_unfolding.specs.Unfolding.{PureUnfoldedCase, IsMetAfter}
use Rattle.sym_unfolding.proofs.SearchLaws.{joined_true, true_parts}

-- ---- lists and results

pub ok_to : {A E : Type 0} (r : Result A E) (P Q : A → Type 0) → ((a : A) → P a → Q a) → IfOk r P → IfOk r Q
ok_to (Ok a) P Q f is = f a is
ok_to (Err e) P Q f is = tt

pub isnt_not : (b : Bool) → not b ≡ true → b ≡ false
isnt_not true is = absurd (true≢false (sym is))
isnt_not false is = refl

pub is_not : (b : Bool) → not b ≡ false → b ≡ true
is_not true is = refl
is_not false is = absurd (true≢false is)

pub map_more : {A B : Type 0} (f : A → B) (xs : List A) (i : ℕ) (x : A) → i < length xs → x ≡ get_or xs i x → map f (take (i + 1) xs) ≡ map f (take i xs) ++ f x ∷ []
map_more f xs i x below is = ap (map f) (take_more xs i x below ∙ ap (λ y. take i xs ++ y ∷ []) (sym is)) ∙ map-append f (take i xs) (x ∷ [])

pub length_taken : {A B : Type 0} (f : A → B) (xs : List A) (i : ℕ) → i < length xs → i ≡ length (map f (take i xs))
length_taken f [] i below = absurd (omega (arith, below))
length_taken f (x ∷ xs) zero below = refl
length_taken f (x ∷ xs) (suc i) below = ap suc (length_taken f xs i (omega (arith, below)))

one_named : (P : List ℕ → Type 0) (xs : List (List ℕ)) → OneOf P xs → (x : List ℕ) × ((is_among xs x ≡ true) × P x)
one_named P [] one = absurd one
one_named P (y ∷ ys) (inl here) = (y, (or_left (bytes_eq y y) (is_among ys y) (same_name y), here))
one_named P (y ∷ ys) (inr later) = let (x, (among, is)) = one_named P ys later in (x, (or_right (bytes_eq x y) (is_among ys x) among, is))

pub drop_front : {A : Type 0} (xs ys : List A) → drop (length xs) (xs ++ ys) ≡ ys
drop_front [] ys = refl
drop_front (x ∷ xs) ys = drop_front xs ys

pub open_later : (a b : List PureAtom) → IsTrue (has_open b) → IsTrue (has_open (a ++ b))
open_later a b form = list_any-append is_open a b ∙ or_right (has_open a) (has_open b) form

at_last : {X : Type 0} (xs : List X) (y : X) → slice_get (xs ++ y ∷ []) (length xs) ≡ Some y
at_last [] y = refl
at_last (x ∷ xs) y = at_last xs y

last_or_before : {X : Type 0} (xs : List X) (y : X) (i : ℕ) (z : X) → slice_get (xs ++ y ∷ []) i ≡ Some z → (slice_get xs i ≡ Some z) ⊎ ((i ≡ length xs) × (y ≡ z))
last_or_before [] y zero z is = inr (refl, same_some is)
last_or_before [] y (suc i) z is = not_none is
last_or_before (x ∷ xs) y zero z is = inl is
last_or_before (x ∷ xs) y (suc i) z is = ⊎_elim inl (λ (last : (i ≡ length xs) × (y ≡ z)). let at : i ≡ length xs = last.0 in inr (omega (arith, at), last.1)) (last_or_before xs y i z is)

-- ---- larger tables

module _ (vars : List Sort) (v more : List PureValue) (one_each : length v ≡ length vars) where
  pub conds_longer : (atoms : List PureAtom) → Each (λ a. IsOver vars (term_of a)) atoms → all_true (v ++ more) atoms ≡ all_true v atoms
  conds_longer [] over = refl
  conds_longer (a ∷ atoms) over = λ i. stay_when_tables_grow.truths a vars v more over.0 one_each i && conds_longer atoms over.1 i

  terms_longer : (ts : List PureTerm) → AreEachOver vars ts → values (v ++ more) (from_list ts) ≡ values v (from_list ts)
  terms_longer [] over = refl
  terms_longer (t ∷ ts) over = λ i. both (stay_when_tables_grow.values t vars v more over.0 one_each i) (terms_longer ts over.1 i)

  facts_longer : (cs : List PureFact) (fs : List Fact) → Each (λ c. AreEachOver vars (c.ins ++ c.outs)) cs → AreFacts v cs fs → AreFacts (v ++ more) cs fs
  facts_longer [] [] over are = tt
  facts_longer [] (f ∷ fs) over are = absurd are
  facts_longer (c ∷ cs) [] over are = absurd are
  facts_longer (c ∷ cs) (f ∷ fs) over are = (
    record {
      pred = are.0.pred;
      ins = terms_longer c.ins (each_left (IsOver vars) c.ins c.outs over.0) ∙ are.0.ins;
      outs = terms_longer c.outs (each_right (IsOver vars) c.ins c.outs over.0) ∙ are.0.outs;
    },
    facts_longer cs fs over.1 are.1,
  )

  agree_longer : (t : PureTerm) → IsOver vars t → AgreeOn (variables t) v (v ++ more)
  agree_longer t over x has =
      let within : x.number < length vars = slice_get_within vars x.number x.sort (over x has) in
      sym (slice_get-append v more x.number (omega (arith, within, one_each)))

conds_over : (vars sorts : List Sort) (atoms : List PureAtom) → Each (λ a. IsOver vars (term_of a)) atoms → Each (λ a. IsOver (vars ++ sorts) (term_of a)) atoms
conds_over vars sorts atoms over = each_to (λ a. IsOver vars (term_of a)) (λ a. IsOver (vars ++ sorts) (term_of a)) atoms (λ a is. stay_when_tables_grow.over (term_of a) vars sorts is) over

-- ---- states after the first one

module _ {S : Type 0} (stands : S → List PureValue → Heap → Type 0) (terms : S → StateTerms) (bs : PureStore) (s : PureState S) where
  record IsLater (r : PureState S) : Type 0 where
    rest : List PureAtom
    conds : r.conds ≡ s.conds ++ rest
    same_else : r ≡ record s { conds = r.conds; memory = r.memory; facts = r.facts }

  produced_later : (items : List PureItem) (r : PureState S) → IsProduced terms bs s items r → IsLater r
  produced_later items r (is_begun is same) = record {
    rest = [];
    conds = ap (λ (x : PureState S). x.conds) is ∙ sym (append-nil s.conds);
    same_else = is ∙ (λ i. record s { conds = (sym (ap (λ (x : PureState S). x.conds) is)) i; memory = r.memory; facts = (sym (ap (λ (x : PureState S). x.facts) is)) i });
  }
  produced_later items r (is_added {items = xs} {q = q} before next) =
      let earlier = produced_later xs q before in
      record {
        rest = earlier.rest ++ next.more;
        conds = next.conds ∙ ap (λ cs. cs ++ next.more) earlier.conds ∙ append_assoc s.conds earlier.rest next.more;
        same_else = next.same_else ∙ ap (λ (x : PureState S). record x { conds = r.conds; memory = r.memory; facts = r.facts }) earlier.same_else;
      }

  come_later : (items : List PureItem) (rs : List (PureState S)) → ComeFromItems stands terms bs items s rs → Each IsLater rs
  come_later items [] come = tt
  come_later items (r ∷ rs) come = (⊎_elim (λ whole. produced_later items r whole) half come.0, come_later items rs come.1)
    where
      half : IsStopped stands terms bs s items r → IsLater r
      half stopped =
          let earlier = produced_later stopped.before stopped.at stopped.produced in
          record {
            rest = earlier.rest ++ stopped.last.more;
            conds = stopped.last.conds ∙ ap (λ cs. cs ++ stopped.last.more) earlier.conds ∙ append_assoc s.conds earlier.rest stopped.last.more;
            same_else = stopped.last.same_else ∙ ap (λ (x : PureState S). record x { conds = r.conds; memory = r.memory; facts = r.facts }) earlier.same_else;
          }

pub both_each : {A : Type 0} (P Q R : A → Type 0) (xs : List A) → ((x : A) → P x → Q x → R x) → Each P xs → Each Q xs → Each R xs
both_each P Q R [] f first second = tt
both_each P Q R (x ∷ xs) f first second = (f x first.0 second.0, both_each P Q R xs f first.1 second.1)

-- what is so of each element for each t is so for each t of each element
pub each_for_all : {T A : Type 0} (P : T → A → Type 0) (xs : List A) → ((t : T) → Each (P t) xs) → Each (λ x. (t : T) → P t x) xs
each_for_all P [] all = tt
each_for_all P (x ∷ xs) all = ((λ t. (all t).0), each_for_all P xs (λ t. (all t).1))

one_of_each : {A : Type 0} (P Q R : A → Type 0) (xs : List A) → Each P xs → OneOf Q xs → ((x : A) → P x → Q x → R x) → OneOf R xs
one_of_each P Q R [] all one f = absurd one
one_of_each P Q R (x ∷ xs) all (inl here) f = inl (f x all.0 here)
one_of_each P Q R (x ∷ xs) all (inr later) f = inr (one_of_each P Q R xs all.1 later f)

pub over_first : {S : Type 0} (s n : PureState S) (vars : List Sort) (cs more : List PureAtom) → n ≡ record s { memory = n.memory } → cs ≡ n.conds ++ more
    → record n { vars = vars; conds = cs } ≡ record s { vars = vars; conds = s.conds ++ more; memory = n.memory }
over_first {S} s n vars cs more is grown =
    let conds : cs ≡ s.conds ++ more = grown ∙ ap (λ (x : PureState S). x.conds ++ more) is in
    λ i. record (is i) { vars = vars; conds = conds i }

-- ---- items

module _ {S : Type 0} (memory : MemoryName) (stands : S → List PureValue → Heap → Type 0) (terms : S → StateTerms) (kept : S → Type 0) (meaning : IsMeaning memory stands terms)
    (ps : List Param) (bs : PureStore) (more : List PureAtom) (items : List PureItem) (s : PureState S) (xs : List (List ℕ)) (names : (x : List ℕ) → is_among xs x ≡ named_by_items items x) where
  may_name : (v : List PureValue) (u t : Store) (left next : LogicState) → MayBeAdded memory stands terms kept ps bs more s v u t left → IsAdding memory t items left next → MayName ps xs s.vars bs v u t
  may_name v u t left next may adding = record {
    proper = may.stands_for.proper;
    over = may.store_over;
    stands = may.store;
    extends = may.extends;
    sorts = may.sorts;
    known = λ x among. added_known t items left next adding.added_is x (sym (names x) ∙ among);
  }

  pub none_added : NamesAll ps xs s.vars bs None → AddsItems memory stands terms kept ps bs more items s []
  none_added none = record {
    cover = λ v u t left next may adding. absurd (none v u t (may_name v u t left next may adding));
    exact = λ v values left before. tt;
    follow = λ over store_over conds. tt;
  }

  module _ (named : PureNamed) (naming : IsNaming ps xs s.vars bs named) (rs : List (PureState S)) (adds : AddsOver memory stands terms kept named more items s rs) where
    abbrev First : PureState S
    First = adds.first

    table : adds.first.vars ≡ named.vars
    table = ap (λ (x : PureState S). x.vars) adds.is

    conds : adds.first.conds ≡ s.conds ++ more
    conds = ap (λ (x : PureState S). x.conds) adds.is

    facts : adds.first.facts ≡ s.facts
    facts = ap (λ (x : PureState S). x.facts) adds.is

    larger : adds.first.vars ≡ s.vars ++ naming.more
    larger = table ∙ naming.grows

    first_over : IsOverTable terms s → Each (λ a. IsOver s.vars (term_of a)) more → IsOverTable terms adds.first
    first_over over more_over = record {
      conds = subst (λ (cs : List PureAtom). Each (λ a. IsOver adds.first.vars (term_of a)) cs) (sym conds)
          (subst (λ (vars : List Sort). Each (λ a. IsOver vars (term_of a)) (s.conds ++ more)) (sym larger)
          (conds_over s.vars naming.more (s.conds ++ more) (each_append (λ a. IsOver s.vars (term_of a)) s.conds more over.conds more_over)));
      given = subst (λ (cs : List PureAtom). Each (λ a. IsOver adds.first.vars (term_of a)) cs) (sym (ap (λ (x : PureState S). x.given) adds.is))
          (subst (λ (vars : List Sort). Each (λ a. IsOver vars (term_of a)) s.given) (sym larger) (conds_over s.vars naming.more s.given over.given));
      memory = subst (λ (ts : StateTerms). AreEachOver adds.first.vars (all_of ts)) (sym adds.same_memory.same_terms)
          (subst (λ (vars : List Sort). AreEachOver vars (all_of (terms s.memory))) (sym larger)
          (each_to (IsOver s.vars) (IsOver (s.vars ++ naming.more)) (all_of (terms s.memory)) (λ t is. stay_when_tables_grow.over t s.vars naming.more is) over.memory));
      facts = subst (λ (cs : List PureFact). Each (λ c. AreEachOver adds.first.vars (c.ins ++ c.outs)) cs) (sym facts)
          (subst (λ (vars : List Sort). Each (λ c. AreEachOver vars (c.ins ++ c.outs)) s.facts) (sym larger)
          (each_to (λ c. AreEachOver s.vars (c.ins ++ c.outs)) (λ c. AreEachOver (s.vars ++ naming.more) (c.ins ++ c.outs)) s.facts
          (λ c all. each_to (IsOver s.vars) (IsOver (s.vars ++ naming.more)) (c.ins ++ c.outs) (λ t is. stay_when_tables_grow.over t s.vars naming.more is) all) over.facts));
    }

    store_over : IsStoreOver s.vars bs → IsStoreOver adds.first.vars named.store
    store_over over = subst (λ (vars : List Sort). IsStoreOver vars named.store) (sym table) (naming.over over)

    later : Each (IsLater stands terms named.store adds.first) rs
    later = come_later stands terms named.store adds.first items rs adds.origin

    later_table : (r : PureState S) → IsLater stands terms named.store adds.first r → r.vars ≡ named.vars
    later_table r l = ap (λ (x : PureState S). x.vars) l.same_else ∙ table

    -- the conditions that a later state has beside those of the state
    added_since : (r : PureState S) (l : IsLater stands terms named.store adds.first r) → added_conds s r ≡ more ++ added_conds adds.first r
    added_since r l =
        let whole : r.conds ≡ s.conds ++ (more ++ l.rest) = l.conds ∙ ap (λ cs. cs ++ l.rest) conds ∙ append_assoc s.conds more l.rest in
        ap (drop (length s.conds)) whole ∙ drop_front s.conds (more ++ l.rest) ∙ ap (λ cs. more ++ cs) (sym (ap (drop (length adds.first.conds)) l.conds ∙ drop_front adds.first.conds l.rest))

    -- under a valuation of the larger table, the first state and the new store serve
    serves_with : (v values : List PureValue) (t : Store) (left : LogicState) → IsBefore memory stands terms kept ps bs more s v left → IsTrue (all_true v more) → IsProper named.vars (v ++ values) → StandsFor (v ++ values) named.store t
        → Serves stands terms adds.first named.store (v ++ values) t left
    serves_with v values t left before conds_true proper stood =
        let one_each : length v ≡ length s.vars = before.stands_for.proper.one_each in
        record {
          over = first_over before.over before.conds_over;
          store_over = store_over before.store_over;
          store = stood;
          state = record {
            proper = subst (λ (vars : List Sort). IsProper vars (v ++ values)) (sym table) proper;
            meets = subst (λ (cs : List PureAtom). IsTrue (all_true (v ++ values) cs)) (sym conds)
                (joined_true (v ++ values) s.conds more
                (conds_longer s.vars v values one_each s.conds before.over.conds ∙ before.stands_for.meets)
                (conds_longer s.vars v values one_each more before.conds_over ∙ conds_true));
            memory = adds.same_memory.stays (v ++ values) left.heap
                (meaning.local s.memory v (v ++ values) left.heap (each_to (IsOver s.vars) (λ r. AgreeOn (variables r) v (v ++ values)) (all_of (terms s.memory)) (agree_longer s.vars v values one_each) before.over.memory) before.stands_for.memory);
            facts = subst (λ (cs : List PureFact). AreFacts (v ++ values) cs left.facts) (sym facts) (facts_longer s.vars v values one_each s.facts left.facts before.over.facts before.stands_for.facts);
          };
        }

    module _ (v : List PureValue) (u t : Store) (left next : LogicState) (may : MayBeAdded memory stands terms kept ps bs more s v u t left) (adding : IsAdding memory t items left next) where
      abbrev n : IsNamedAs ps xs s.vars bs v u t named
      n = naming.cover v u t (may_name v u t left next may adding)

      under_store : IsAdding memory n.store items left next
      under_store = record {
        added_is = added_same n.store t items left (λ x is. n.listed x (names x ∙ is)) ∙ adding.added_is;
        well_formed = adding.well_formed;
      }

      serves : Serves stands terms adds.first named.store (v ++ n.values) n.store left
      serves =
          serves_with v n.values n.store left (record { over = may.over; store_over = may.store_over; conds_over = may.conds_over; stands_for = may.stands_for }) may.conds_true n.proper n.stands

      added_as : (r : PureState S) → IsLater stands terms named.store adds.first r → IsTrue (all_true (v ++ n.values) r.conds) × (IsTrue (has_open (added_conds adds.first r)) ⊎ Stands stands r (v ++ n.values) next) → IsAddedAs memory stands terms kept ps bs more s v items t next r
      added_as r l is = record {
        values = n.values;
        come = each_to (λ w. OneOf (λ x. value_of t x ≡ Some w) xs) (λ w. (x : List ℕ) × (IsTrue (named_by_items items x) × (value_of t x ≡ Some w))) n.values
            (λ w one. let (x, (among, at)) = one_named (λ x. value_of t x ≡ Some w) xs one in (x, (sym (names x) ∙ among, at))) n.come;
        proper = subst (λ (vars : List Sort). IsProper vars (v ++ n.values)) (sym (later_table r l)) n.proper;
        meets = is.0;
        is = ⊎_elim (λ form. inl (subst (λ (cs : List PureAtom). IsTrue (has_open cs)) (sym (added_since r l)) (open_later more (added_conds adds.first r) form))) (λ there. inr there) is.1;
      }

      one_added : OneOf (IsAddedAs memory stands terms kept ps bs more s v items t next) rs
      one_added =
          one_of_each (IsLater stands terms named.store adds.first) (λ r. IsTrue (all_true (v ++ n.values) r.conds) × (IsTrue (has_open (added_conds adds.first r)) ⊎ Stands stands r (v ++ n.values) next))
          (IsAddedAs memory stands terms kept ps bs more s v items t next) rs later (adds.cover (v ++ n.values) n.store left next serves under_store) added_as

    -- what an answered state stands for

    module _ (v values : List PureValue) (left : LogicState) (before : IsBefore memory stands terms kept ps bs more s v left) where
      record IsServed : Type 0 where
        store : Store
        serves : Serves stands terms adds.first named.store (v ++ values) store left

      abbrev HasAdding : IsServed → PureState S → Type 0
      HasAdding k r =
          IsTrue (all_true (v ++ values) r.conds) → has_open (added_conds adds.first r) ≡ false → (next : LogicState) × (IsAdding memory k.store items left next × Stands stands r (v ++ values) next)

      adds_exactly : (r : PureState S) → IsLater stands terms named.store adds.first r → ((k : IsServed) → HasAdding k r) → IsMetAfter s r (v ++ values) → AddsExactly memory stands terms kept ps bs more v left items (v ++ values) r
      adds_exactly r l law met =
          let one_each : length v ≡ length s.vars = before.stands_for.proper.one_each in
          let proper : IsProper named.vars (v ++ values) = subst (λ (vars : List Sort). IsProper vars (v ++ values)) (later_table r l) met.meets.proper in
          let whole : IsTrue (all_true (v ++ values) (adds.first.conds ++ l.rest)) = subst (λ (cs : List PureAtom). IsTrue (all_true (v ++ values) cs)) l.conds met.meets.true_there in
          let first_true : IsTrue (all_true (v ++ values) (s.conds ++ more)) = subst (λ (cs : List PureAtom). IsTrue (all_true (v ++ values) cs)) conds (true_parts (v ++ values) adds.first.conds l.rest whole).0 in
          let more_true : IsTrue (all_true v more) = sym (conds_longer s.vars v values one_each more before.conds_over) ∙ (true_parts (v ++ values) s.conds more first_true).1 in
          record {
            conds_true = more_true;
            adding = λ u stood sorts.
                let (t, (names_added, stood_t)) = naming.exact (v ++ values) u (proper_sorts named.vars (v ++ values) proper) (store_longer s.vars v values one_each bs u before.store_over stood) in
                let (next, (adding, stands_next)) = law (record { store = t; serves = serves_with v values t left before more_true proper stood_t }) met.meets.true_there (none_open more (added_conds adds.first r) (ap has_open (sym (added_since r l)) ∙ met.no_form)).1 in
                record {
                  store = t;
                  extends = names_added.extends;
                  sorts = λ x w at. ⊎_elim (λ known. sorts x w known) (λ (new : IsTrue (is_among xs x) × IsTrue (fits_sorts ps x w)). new.1) (names_added.added x w at);
                  next = next;
                  adding = adding;
                  stands_for = stands_next;
                };
          }

      all_exact : Each (λ r. IsMetAfter s r (v ++ values) → AddsExactly memory stands terms kept ps bs more v left items (v ++ values) r) rs
      all_exact =
          both_each (IsLater stands terms named.store adds.first) (λ r. (k : IsServed) → HasAdding k r) (λ r. IsMetAfter s r (v ++ values) → AddsExactly memory stands terms kept ps bs more v left items (v ++ values) r) rs adds_exactly later
          (each_for_all HasAdding rs (λ k. adds.exact (v ++ values) k.store left k.serves))

    is_further : (r : PureState S) → IsLater stands terms named.store adds.first r → IsOverTable terms r → (kept s.memory → kept r.memory) → IsFurther terms kept s r
    is_further r l over still = record {
      sorts = naming.more;
      vars = ap (λ (x : PureState S). x.vars) l.same_else ∙ larger;
      more = more ++ l.rest;
      conds = l.conds ∙ ap (λ cs. cs ++ l.rest) conds ∙ append_assoc s.conds more l.rest;
      same_else =
          l.same_else ∙ ap (λ (x : PureState S). record x { conds = r.conds; memory = r.memory; facts = r.facts }) adds.is
          ∙ ap (λ (vars : List Sort). record s { vars = vars; conds = r.conds; memory = r.memory; facts = r.facts }) (sym table ∙ sym (ap (λ (x : PureState S). x.vars) l.same_else));
      over = over;
      still_kept = still;
    }

    kept_each : (ss : List (PureState S)) → (kept adds.first.memory → Each (λ r. kept r.memory) ss) → Each (λ r. kept s.memory → kept r.memory) ss
    kept_each [] all = tt
    kept_each (r ∷ ss) all = ((λ is. (all (adds.same_memory.still_kept is)).0), kept_each ss (λ is. (all is).1))

    pub items_added : AddsItems memory stands terms kept ps bs more items s rs
    items_added = record {
      cover = one_added;
      exact = all_exact;
      follow = λ over stores more_over.
          both_each (λ r. IsLater stands terms named.store adds.first r) (λ r. IsOverTable terms r × (kept s.memory → kept r.memory)) (IsFurther terms kept s) rs (λ r l is. is_further r l is.0 is.1) later
          (both_each (IsOverTable terms) (λ r. kept s.memory → kept r.memory) (λ r. IsOverTable terms r × (kept s.memory → kept r.memory)) rs (λ r is still. (is, still))
          (adds.over (first_over over more_over) (store_over stores)) (kept_each rs adds.still_kept));
    }

-- ---- cases

module _ {S : Type 0} (memory : MemoryName) (stands : S → List PureValue → Heap → Type 0) (terms : S → StateTerms) (kept : S → Type 0) (ps : List Param) (bs : PureStore) (more : List PureAtom) (s : PureState S) where
  pub no_case : AddsCases memory stands terms kept ps bs more [] s []
  no_case = record {
    cover = λ v u t left next number items may at adding. not_none at;
    exact = λ v values left before. tt;
    follow = λ over stores conds. tt;
    origin = tt;
  }

  pub case_more : (cases : List (List PureItem)) (items : List PureItem) (rs : List (PureUnfoldedCase S)) (ss : List (PureState S)) (number : ℕ) → number ≡ length cases → AddsCases memory stands terms kept ps bs more cases s rs → AddsItems memory stands terms kept ps bs more items s ss
      → Each (IsAddedFrom terms bs more items s) ss → AddsCases memory stands terms kept ps bs more (cases ++ items ∷ []) s (rs ++ numbered number ss)
  case_more cases items rs ss number at so_far adds come = record {
    cover = λ v u t left next k body may there adding.
        let Right : PureUnfoldedCase S → Type 0 = λ (r : PureUnfoldedCase S). (r.number ≡ k) × IsAddedAs memory stands terms kept ps bs more s v body t next r.state in
        ⊎_elim
        (λ before. one_left Right rs (numbered number ss) (so_far.cover v u t left next k body may before adding))
        (λ (last : (k ≡ length cases) × (items ≡ body)).
        one_right Right rs (numbered number ss)
        (one_map Right (λ r. record { number = number; state = r }) ss
        (one_to (IsAddedAs memory stands terms kept ps bs more s v items t next) (λ r. (number ≡ k) × IsAddedAs memory stands terms kept ps bs more s v body t next r) ss
        (λ r is. (at ∙ sym last.0, subst (λ (b : List PureItem). IsAddedAs memory stands terms kept ps bs more s v b t next r) last.1 is))
        (adds.cover v u t left next may (subst (λ (b : List PureItem). IsAdding memory t b left next) (sym last.1) adding)))))
        (last_or_before cases items k body there);
    exact = λ v values left before.
        let Exact : List (List PureItem) → PureUnfoldedCase S → Type 0 = λ (cs : List (List PureItem)) (r : PureUnfoldedCase S). IsMetAfter s r.state (v ++ values) → (body : List PureItem) × ((slice_get cs r.number ≡ Some body)
        × AddsExactly memory stands terms kept ps bs more v left body (v ++ values) r.state) in
        each_append (Exact (cases ++ items ∷ [])) rs (numbered number ss)
        (each_to (Exact cases) (Exact (cases ++ items ∷ [])) rs
        (λ r law met. let (body, (there, exactly)) = law met in (body, (slice_get-append cases (items ∷ []) r.number (slice_get_within cases r.number body there) ∙ there, exactly)))
        (so_far.exact v values left before))
        (each_map (Exact (cases ++ items ∷ [])) (λ r. record { number = number; state = r }) ss
        (each_to (λ r. IsMetAfter s r (v ++ values) → AddsExactly memory stands terms kept ps bs more v left items (v ++ values) r) (λ r. Exact (cases ++ items ∷ []) (record { number = number; state = r })) ss
        (λ r law met. (items, (ap (slice_get (cases ++ items ∷ [])) at ∙ at_last cases items, law met)))
        (adds.exact v values left before)));
    follow = λ over stores conds.
        each_append (λ (r : PureUnfoldedCase S). IsFurther terms kept s r.state) rs (numbered number ss) (so_far.follow over stores conds)
        (each_map (λ (r : PureUnfoldedCase S). IsFurther terms kept s r.state) (λ r. record { number = number; state = r }) ss (adds.follow over stores conds));
    origin =
        each_append (IsCaseAddedFrom terms bs more (cases ++ items ∷ []) s) rs (numbered number ss)
        (each_to (IsCaseAddedFrom terms bs more cases s) (IsCaseAddedFrom terms bs more (cases ++ items ∷ []) s) rs
        (λ r is. let (body, (there, from)) = is in (body, (slice_get-append cases (items ∷ []) r.number (slice_get_within cases r.number body there) ∙ there, from))) so_far.origin)
        (each_map (IsCaseAddedFrom terms bs more (cases ++ items ∷ []) s) (λ r. record { number = number; state = r }) ss
        (each_to (IsAddedFrom terms bs more items s) (λ r. IsCaseAddedFrom terms bs more (cases ++ items ∷ []) s (record { number = number; state = r })) ss
        (λ r from. (items, (ap (slice_get (cases ++ items ∷ [])) at ∙ at_last cases items, from))) come));
  }

-- the elements beside the one at a place
pub others_are : {A B : Type 0} (f : A → B) (ys xs : List A) (i : ℕ) → ys ≡ xs → map f (take i ys) ++ map f (take (length ys - (i + 1)) (drop (i + 1) ys)) ≡ take i (map f xs) ++ drop (i + 1) (map f xs)
others_are f ys xs i same =
    let rest : take (length ys - (i + 1)) (drop (i + 1) ys) ≡ drop (i + 1) ys = take_all (length ys - (i + 1)) (drop (i + 1) ys) (simp length-drop (omega arith)) in
    ap (λ zs. zs ++ map f (take (length ys - (i + 1)) (drop (i + 1) ys))) (sym (take-map f i ys)) ∙ ap (λ zs. take i (map f ys) ++ map f zs) rest ∙ ap (λ zs. take i (map f ys) ++ zs) (sym (drop-map f (i + 1) ys)) ∙ ap (λ zs. take i (map f zs) ++ drop (i + 1) (map f zs)) same
