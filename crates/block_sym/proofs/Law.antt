-- The branches of every action keep the laws of a symbolic memory.
use Rattle.std.proofs.Common.{◌≡◌, ◌⊎◌, ⊎_elim, inl, inr, ℕ, ◌<◌, ◌≤◌, ℤ, pos, negsuc, ◌-ℤ◌, ◌+ℤ◌, ◌≤ℤ◌, int_le, List, [], ◌∷◌, ◌++◌, Bool, true, false, not, ◌&&◌, ◌||◌, if◌then◌else◌, Option, Some, None, IsTrue, codes, refl, sym, ap, subst, ◌∙◌, true≢false, arith}
use Rattle.std.specs.Prelude.{⊤}
use Rattle.std.specs.Str.{bytes_eq}
use Rattle.std.proofs.lemmas.Bool.{and_parts, and_from}
use Rattle.std.proofs.lemmas.Int.{ints}
use Rattle.gil_values.proofs.OperatorSymbols.{none_contained}
use Rattle.gil_values.specs.declared.kinds.Kind.{Kind}
use Rattle.gil_values.specs.Pure.{PureValue, integer}
use Rattle.mem_model.specs.declared.failures.Failure.{Failure}
use Rattle.mem_model.specs.declared.keys.MemoryName.TheVariants.{Block}
use Rattle.mem_model.specs.Heaps.{Heap}
use Rattle.block_heap.specs.declared.actions.BlockAction.{BlockAction}
use Rattle.block_heap.specs.Names.{action_of}
use Rattle.block_heap.specs.Table.{count_of, act_of, block_actions}
use Rattle.block_sym.specs.Asking.{asked_of_address, asked_by, formed_of_address, formed_by}
use Rattle.block_sym.specs.BlockMeaning.{each_asked}
use Rattle.block_sym.specs.Laws.{AreRight}
use Rattle.block_sym.specs.Table.{number, address_term, branches_by, unknown_action, table}
use Rattle.core_uses.specs.Kept.{IsKept, AreKept}
use Rattle.pure_terms.specs.declared.literals.Literal.{Literal}
use Rattle.pure_terms.specs.declared.variables.Sort.{Sort}
use Rattle.pure_terms.specs.declared.variables.Var.{Var}
use Rattle.pure_terms.specs.Fragment.{has_literals_between}
use Rattle.pure_terms.specs.Kinds.{same_sort, allows, known_kind}
use Rattle.pure_terms.specs.Meaning.{IsOver}
use Rattle.pure_terms.specs.Numbers.{is_between}
use Rattle.pure_terms.specs.Pure.{PureTerm, literal, variable, list_of, unary_of, binary_of, PureTerms, to_list, PureAtom, positive, negative, opening, term_of}
use Rattle.sym_chunks.specs.Cases.{true_term}
use Rattle.sym_model.specs.Chunks.{StandFor, terms_of}
use Rattle.sym_model.specs.Cores.{zero_term, IsSubOf, MissesItsOwn}
use Rattle.sym_model.specs.Laws.{MayBeAsked, Serves, ActLaw, ActsPlainly, ArePlainArguments, EachTerm, IsPlainWithin, IsDecidedWithin, growth}
use Rattle.sym_model.specs.Lists.{Each, OneOf, IsAmong}
use Rattle.sym_model.specs.Meaning.{fresh_symbol}
use Rattle.sym_model.specs.Plain.{IsPlainState}
use Rattle.sym_model.specs.Pure.{PureSub, named, cell, shape, bound, dom, proto, gone, PureChunk, result_terms}
use Rattle.sym_model.specs.Terms.{is_literal, is_list_term, all_of, AreEachOver, IsFreshOver, IsMadeOf, IsListed, is_given, IsLimit, AreOrdered, asked_of, IsOwnCondition}
use Rattle.sym_model.proofs.ChunkMeaning.{ChunkTerms, chunk_by_chunk, from_chunks}
use Rattle.sym_model.proofs.Listed.{listed_itself}
use Rattle.sym_model.proofs.ListLaws.{not_none, each_to, each_left, each_right, each_is_among}
use Rattle.sym_model.proofs.MadeLaws.{made_of_given, elements_made}
use Rattle.sym_model.proofs.PlainLaws.{plain_wider}
use Rattle.sym_chunks.proofs.CaseLaws.{Exact, covered, each_every, IsRight}
use Rattle.sym_chunks.proofs.Readings.{asks, own_reading, made_state, own_sides, own_forms, over_literal, over_elements, over_reading, over_state, over_sides, over_forms, plain_parts, elements_plain, no_list_kind, plain_fresh, plain_reading, plain_state, plain_sides, plain_forms, state_plain, AnyAtom, KeptAt, loose_reading, loose_state, loose_sides, loose_forms, kept_reading, missed_reading, missed_own, shaped_terms, shaped_conds, shaped_named}
use Rattle.sym_chunks.proofs.Shapes.{Reading, ChunkSides, IsFine, IsFineState, Shaped, fine_terms}
use Rattle.block_sym.proofs.BlockShapes.{FitsBlocks, IsAsked, OpenIf, FormOf, table_shaped}
use Rattle.block_sym.proofs.Right.{alloc_is_right, load_is_right, store_is_right, free_is_right, fails_always}

-- ---- variables

module _ (fresh : Option Var) (args : List PureTerm) (cs : List PureChunk) (o : Option BlockAction) where
  module _ (vars : List Sort) (over : AreEachOver vars (args ++ all_of (terms_of cs))) (fresh_over : IsFreshOver vars fresh) where
    over_args : Each (IsOver vars) args
    over_args = each_left (IsOver vars) args (all_of (terms_of cs)) over

    over_all : Each (IsOver vars) (all_of (terms_of cs))
    over_all = each_right (IsOver vars) args (all_of (terms_of cs)) over

    fits_over : FitsBlocks (over_reading vars)
    fits_over = record {
      n_cell = λ i t. tt;
      n_bound = λ n. tt;
      n_gone = tt;
      m_cell = λ i. tt;
      m_bound = tt;
      r_below = λ n k r below. over_literal vars (Literal.Int (pos k));
      r_size = λ k within. over_literal vars (Literal.Int (pos k));
      r_address = λ x is. is;
      r_elements = over_elements vars;
    }

    over_fresh : (f : Option Var) → IsFreshOver vars f → (x : Var) → f ≡ Some x → IsOver vars (variable x)
    over_fresh None is x e = not_none e
    over_fresh (Some y) is x e = subst (λ z. IsFreshOver vars z) e is

    over_asked : Each (IsAsked (over_reading vars) fits_over) (asked_by o args)
    over_asked = each_to (IsOver vars) (IsAsked (over_reading vars) fits_over) (asked_by o args) (λ z is. (is, λ lit t given. ((given, is), (is, given)))) (each_asked (IsOver vars) (over_literal vars (Literal.Int (pos 0))) o args over_args)

    open_if : (k : Kind) (a : PureTerm) → IsOver vars a → OpenIf (over_reading vars) fits_over cs (over_sides vars cs over_all) (over_state vars cs over_all) k a
    open_if k a is no_list no_literal = inr is

    over_form : (p : Option BlockAction) (ts : List PureTerm) → Each (IsOver vars) ts → FormOf (over_reading vars) fits_over cs (over_sides vars cs over_all) (over_state vars cs over_all) p ts
    over_form (Some BlockAction.Alloc) (n ∷ []) all = open_if Kind.Int n all.0
    over_form (Some BlockAction.Load) (a ∷ []) all = open_if Kind.List a all.0
    over_form (Some BlockAction.Store) (a ∷ t ∷ []) all = open_if Kind.List a all.0
    over_form (Some BlockAction.Free) (a ∷ []) all = open_if Kind.List a all.0
    over_form p ts all = tt

    over_named : Each (λ b. Each (λ a. IsOver vars (term_of a)) b.conds × EachTerm terms_of (IsOver vars) b) (table o fresh args cs)
    over_named =
        shaped_named (table o fresh args cs) vars
        (table_shaped (over_reading vars) fits_over cs (over_sides vars cs over_all) (over_state vars cs over_all) (over_forms vars cs over_all) o fresh args (over_fresh fresh fresh_over) over_asked over_args (over_form o args over_args))

  -- ---- own conditions, and what terms are made of

  abbrev given : List PureTerm
  given = args ++ all_of (terms_of cs)

  abbrev asked_pair : List PureTerm × List PureTerm
  asked_pair = (asked_by o args, formed_by o args)

  abbrev own : Reading
  own = own_reading (asked_by o args, formed_by o args) (args ++ all_of (terms_of cs)) fresh cs

  among_state : Each (λ t. IsAmong t given) (all_of (terms_of cs))
  among_state = each_right (λ t. IsAmong t given) args (all_of (terms_of cs)) (each_is_among given)

  fits_own : FitsBlocks own
  fits_own = record {
    n_cell = λ i t. tt;
    n_bound = λ n. tt;
    n_gone = tt;
    m_cell = λ i. tt;
    m_bound = tt;
    r_below = λ n k r below. tt;
    r_size = λ k within. tt;
    r_address = λ x made. inr (made, (tt, tt));
    r_elements = elements_made given fresh;
  }

  made_args : Each (IsMadeOf given fresh) args
  made_args = each_to (λ t. IsAmong t given) (IsMadeOf given fresh) args (λ t is. made_of_given given fresh t (is_given is)) (each_left (λ t. IsAmong t given) args (all_of (terms_of cs)) (each_is_among given))

  own_asked : Each (IsAsked own fits_own) (asked_by o args)
  own_asked =
      each_to (λ z. IsAmong z (asked_by o args)) (IsAsked own fits_own) (asked_by o args)
      (λ z among. (
        is_given among,
        λ lit t listed.
            let limit : IsLimit (asked_of asked_pair (terms_of cs)) z = inr (among, lit) in
            (inl (inl listed, limit), inr (inl (limit, listed))),
      ))
      (each_is_among (asked_by o args))

  state_own : IsFineState own cs
  state_own = made_state asked_pair given fresh cs among_state

  sides_own : Each (ChunkSides own) cs
  sides_own = own_sides asked_pair given fresh cs

-- where a term may be of the kind, its form is among those that may be needed
formed_if : (k : Kind) (a : PureTerm) (b : Bool) → allows (known_kind a) k ≡ b → (allows (known_kind a) k ≡ false) ⊎ IsAmong a (if b then a ∷ [] else [])
formed_if k a true is = inr (inl refl)
formed_if k a false is = inl is

formed_address : (a : PureTerm) → is_list_term a ≡ false → (allows (known_kind a) Kind.List ≡ false) ⊎ IsAmong a (formed_of_address a)
formed_address (list_of ts) no_list = absurd (true≢false no_list)
formed_address (literal k) no_list = formed_if Kind.List (literal k) _ refl
formed_address (variable x) no_list = formed_if Kind.List (variable x) _ refl
formed_address (unary_of op t) no_list = formed_if Kind.List (unary_of op t) _ refl
formed_address (binary_of op s t) no_list = formed_if Kind.List (binary_of op s t) _ refl

module _ (fresh : Option Var) (cs : List PureChunk) where
  form_own : (o : Option BlockAction) (args : List PureTerm) → FormOf (own fresh args cs o) (fits_own fresh args cs o) cs (sides_own fresh args cs o) (state_own fresh args cs o) o args
  form_own (Some BlockAction.Alloc) (n ∷ []) = λ no_list no_literal. ⊎_elim inl (λ among. inr (inl among, no_list, no_literal)) (formed_if Kind.Int n _ refl)
  form_own (Some BlockAction.Alloc) [] = tt
  form_own (Some BlockAction.Alloc) (n ∷ t ∷ more) = tt
  form_own (Some BlockAction.Load) (a ∷ []) = λ no_list no_literal. ⊎_elim inl (λ among. inr (inl among, no_list, no_literal)) (formed_address a no_list)
  form_own (Some BlockAction.Load) [] = tt
  form_own (Some BlockAction.Load) (a ∷ t ∷ more) = tt
  form_own (Some BlockAction.Store) (a ∷ t ∷ []) = λ no_list no_literal. ⊎_elim inl (λ among. inr (inl among, no_list, no_literal)) (formed_address a no_list)
  form_own (Some BlockAction.Store) [] = tt
  form_own (Some BlockAction.Store) (a ∷ []) = tt
  form_own (Some BlockAction.Store) (a ∷ t ∷ s ∷ more) = tt
  form_own (Some BlockAction.Free) (a ∷ []) = λ no_list no_literal. ⊎_elim inl (λ among. inr (inl among, no_list, no_literal)) (formed_address a no_list)
  form_own (Some BlockAction.Free) [] = tt
  form_own (Some BlockAction.Free) (a ∷ t ∷ more) = tt
  form_own None args = tt

  own_shaped : (o : Option BlockAction) (args : List PureTerm) → Each (Shaped (own fresh args cs o)) (table o fresh args cs)
  own_shaped o args =
      table_shaped (own fresh args cs o) (fits_own fresh args cs o) cs (sides_own fresh args cs o) (state_own fresh args cs o) (own_forms (asked_by o args, formed_by o args) (args ++ all_of (terms_of cs)) fresh cs) o fresh args
      (λ x is. inr (inr (x, (is, refl)))) (own_asked fresh args cs o) (made_args fresh args cs o) (form_own o args)

-- ---- plain

le_to : (m n : ℤ) → int_le m n ≡ true → m ≤ℤ n
le_to m n e = grind (arith, ints)

le_from : (m n : ℤ) → m ≤ℤ n → int_le m n ≡ true
le_from m n h = grind (arith, ints)

between : (low high n : ℤ) → low ≤ℤ n → n ≤ℤ high → is_between low high n ≡ true
between low high n first second = and_from (int_le low n) (int_le n high) (le_from low n first) (le_from n high second)

below_bound : (n high : ℤ) (k : ℕ) → k < count_of (integer n) → n ≤ℤ high → pos k ≤ℤ high
below_bound (pos m) high k below first = omega (arith, ints, below, first)
below_bound (negsuc m) high k below first = absurd (omega (arith, below))

at_least : (low : ℤ) (k : ℕ) → low ≤ℤ pos 0 → low ≤ℤ pos k
at_least low k is = omega (arith, ints, is)

within_growth : (high : ℤ) (k : ℕ) → pos 0 ≤ℤ high → k ≤ 10000 → pos k ≤ℤ (high +ℤ pos 10000)
within_growth high k is within = omega (arith, ints, is, within)

low_growth : (low : ℤ) → low ≤ℤ pos 0 → (low -ℤ pos 10000) ≤ℤ pos 0
low_growth low is = omega (arith, ints, is)

-- the name of `alloc`
name_if : (a b c d : Bool) → (if a then Some BlockAction.Alloc else if b then Some BlockAction.Load else if c then Some BlockAction.Store else if d then Some BlockAction.Free else None) ≡ Some BlockAction.Alloc → a ≡ true
name_if true b c d is = refl
name_if false true c d is = absurd (cc)
name_if false false true d is = absurd (cc)
name_if false false false true is = absurd (cc)
name_if false false false false is = absurd (cc)

alloc_name : (action : List ℕ) → action_of action ≡ Some BlockAction.Alloc → bytes_eq action (codes "alloc") ≡ true
alloc_name action is = name_if (bytes_eq action (codes "alloc")) (bytes_eq action (codes "load")) (bytes_eq action (codes "store")) (bytes_eq action (codes "free")) is

module _ (action : List ℕ) (fresh : Option Var) (args : List PureTerm) (cs : List PureChunk) (o : Option BlockAction) (is_o : action_of action ≡ o) (of_sort : (x : Var) → fresh ≡ Some x → x.sort ≡ Sort.Fresh) (low high : ℤ) (plain : IsPlainState Block (terms_of cs) low high) (plain_args : ArePlainArguments action args low high) where
  abbrev low' : ℤ
  low' = low -ℤ growth

  abbrev high' : ℤ
  high' = high +ℤ growth

  wider : IsPlainState Block (terms_of cs) (low -ℤ growth) (high +ℤ growth)
  wider = record { plain = each_to (IsPlainWithin low high) (IsPlainWithin (low -ℤ growth) (high +ℤ growth)) (all_of (terms_of cs)) (plain_wider low high) plain.plain; described = plain.described }

  number_plain : (k : ℕ) → k ≤ 10000 → IsPlainWithin (low -ℤ growth) (high +ℤ growth) (number (pos k))
  number_plain k within = (refl, between (low -ℤ growth) (high +ℤ growth) (pos k) (at_least (low -ℤ growth) k (low_growth low plain_args.around_zero.0)) (within_growth high k plain_args.around_zero.1 within))

  address_plain : (x : Var) → IsPlainWithin (low -ℤ growth) (high +ℤ growth) (variable x) → IsPlainWithin (low -ℤ growth) (high +ℤ growth) (address_term x)
  address_plain x is =
      let p = plain_parts (low -ℤ growth) (high +ℤ growth) (variable x) is in
      let zero = (number_plain 0 (omega arith)).1 in (
        (λ i. true && (not (p.no_any i || false) && not (p.no_list i || false))),
        (λ i. true && (zero i && true)),
      )

  fits_plain : FitsBlocks (plain_reading Block (low -ℤ growth) (high +ℤ growth))
  fits_plain = record {
    n_cell = λ i t. tt;
    n_bound = λ n. (refl, tt);
    n_gone = tt;
    m_cell = λ i. tt;
    m_bound = tt;
    r_below = λ n k r below. (
      refl,
      between (low -ℤ growth) (high +ℤ growth) (pos k) (at_least (low -ℤ growth) k (low_growth low plain_args.around_zero.0))
          (below_bound n (high +ℤ growth) k below (le_to n (high +ℤ growth) (and_parts (int_le (low -ℤ growth) n) (int_le n (high +ℤ growth)) r.1).1)),
    );
    r_size = number_plain;
    r_address = address_plain;
    r_elements = elements_plain (low -ℤ growth) (high +ℤ growth);
  }

  wide_args : Each (IsPlainWithin (low -ℤ growth) (high +ℤ growth)) args
  wide_args = each_to (IsPlainWithin low high) (IsPlainWithin (low -ℤ growth) (high +ℤ growth)) args (plain_wider low high) plain_args.plain

  plain_asked : Each (IsAsked (plain_reading Block (low -ℤ growth) (high +ℤ growth)) fits_plain) (asked_by o args)
  plain_asked =
      each_to (IsPlainWithin (low -ℤ growth) (high +ℤ growth)) (IsAsked (plain_reading Block (low -ℤ growth) (high +ℤ growth)) fits_plain) (asked_by o args) (λ z is. (is, λ lit t given. ((given, is), (is, given))))
      (each_asked (IsPlainWithin (low -ℤ growth) (high +ℤ growth)) (number_plain 0 (omega arith)) o args wide_args)

  abbrev PlainForm : Option BlockAction → List PureTerm → Type 0
  PlainForm p ts = FormOf (plain_reading Block (low -ℤ growth) (high +ℤ growth)) fits_plain cs (plain_sides Block (low -ℤ growth) (high +ℤ growth) cs wider) (plain_state Block (low -ℤ growth) (high +ℤ growth) cs wider) p ts

  plain_form : (p : Option BlockAction) (ts : List PureTerm) → Each (IsPlainWithin (low -ℤ growth) (high +ℤ growth)) ts → (p ≡ Some BlockAction.Alloc → Each (λ t. IsTrue (is_literal t)) ts) → PlainForm p ts
  plain_form (Some BlockAction.Alloc) (n ∷ []) all literals = λ no_list no_literal. absurd (true≢false (sym (literals refl).0 ∙ no_literal))
  plain_form (Some BlockAction.Alloc) [] all literals = tt
  plain_form (Some BlockAction.Alloc) (n ∷ t ∷ more) all literals = tt
  plain_form (Some BlockAction.Load) (a ∷ []) all literals = λ no_list no_literal. inl (no_list_kind (low -ℤ growth) (high +ℤ growth) a all.0 no_list)
  plain_form (Some BlockAction.Load) [] all literals = tt
  plain_form (Some BlockAction.Load) (a ∷ t ∷ more) all literals = tt
  plain_form (Some BlockAction.Store) (a ∷ t ∷ []) all literals = λ no_list no_literal. inl (no_list_kind (low -ℤ growth) (high +ℤ growth) a all.0 no_list)
  plain_form (Some BlockAction.Store) [] all literals = tt
  plain_form (Some BlockAction.Store) (a ∷ []) all literals = tt
  plain_form (Some BlockAction.Store) (a ∷ t ∷ s ∷ more) all literals = tt
  plain_form (Some BlockAction.Free) (a ∷ []) all literals = λ no_list no_literal. inl (no_list_kind (low -ℤ growth) (high +ℤ growth) a all.0 no_list)
  plain_form (Some BlockAction.Free) [] all literals = tt
  plain_form (Some BlockAction.Free) (a ∷ t ∷ more) all literals = tt
  plain_form None ts all literals = tt

  plain_shaped : Each (Shaped (plain_reading Block (low -ℤ growth) (high +ℤ growth))) (table o fresh args cs)
  plain_shaped =
      table_shaped (plain_reading Block (low -ℤ growth) (high +ℤ growth)) fits_plain cs (plain_sides Block (low -ℤ growth) (high +ℤ growth) cs wider) (plain_state Block (low -ℤ growth) (high +ℤ growth) cs wider) (plain_forms Block (low -ℤ growth) (high +ℤ growth) cs wider) o fresh args
      (λ x is. plain_fresh (low -ℤ growth) (high +ℤ growth) x (of_sort x is)) plain_asked wide_args
      (plain_form o args wide_args (λ is. plain_args.literal_size (alloc_name action (is_o ∙ is))))

-- ---- what is kept, and what is missed

module _ (N : PureSub → PureTerm → Type 0) (n_cell : (i t : PureTerm) → N (cell i) t) (n_bound : (n : ℤ) → N bound (number n)) (n_gone : N gone true_term) where
  abbrev loose : Reading
  loose = loose_reading AnyAtom (λ t. tt) (λ t. tt) N (IsSubOf Block)

  fits_loose : FitsBlocks loose
  fits_loose = record {
    n_cell = n_cell;
    n_bound = n_bound;
    n_gone = n_gone;
    m_cell = λ i. refl;
    m_bound = refl;
    r_below = λ n k r below. tt;
    r_size = λ k within. tt;
    r_address = λ x r. tt;
    r_elements = λ ts r. each_every (λ t. ⊤) (λ t. tt) (to_list ts);
  }

  module _ (fresh : Option Var) (cs : List PureChunk) (all : Each (λ c. N c.sub c.val) cs) where
    abbrev LooseForm : Option BlockAction → List PureTerm → Type 0
    LooseForm o args = FormOf loose fits_loose cs (loose_sides AnyAtom (λ t. tt) (λ t. tt) N (IsSubOf Block) cs) (loose_state AnyAtom (λ t. tt) (λ t. tt) N (IsSubOf Block) cs all) o args

    loose_form : (o : Option BlockAction) (args : List PureTerm) → LooseForm o args
    loose_form (Some BlockAction.Alloc) (n ∷ []) = λ no_list no_literal. inr tt
    loose_form (Some BlockAction.Alloc) [] = tt
    loose_form (Some BlockAction.Alloc) (n ∷ t ∷ more) = tt
    loose_form (Some BlockAction.Load) (a ∷ []) = λ no_list no_literal. inr tt
    loose_form (Some BlockAction.Load) [] = tt
    loose_form (Some BlockAction.Load) (a ∷ t ∷ more) = tt
    loose_form (Some BlockAction.Store) (a ∷ t ∷ []) = λ no_list no_literal. inr tt
    loose_form (Some BlockAction.Store) [] = tt
    loose_form (Some BlockAction.Store) (a ∷ []) = tt
    loose_form (Some BlockAction.Store) (a ∷ t ∷ s ∷ more) = tt
    loose_form (Some BlockAction.Free) (a ∷ []) = λ no_list no_literal. inr tt
    loose_form (Some BlockAction.Free) [] = tt
    loose_form (Some BlockAction.Free) (a ∷ t ∷ more) = tt
    loose_form None args = tt

    loose_shaped : (o : Option BlockAction) (args : List PureTerm) → Each (Shaped loose) (table o fresh args cs)
    loose_shaped o args =
        table_shaped loose fits_loose cs (loose_sides AnyAtom (λ t. tt) (λ t. tt) N (IsSubOf Block) cs) (loose_state AnyAtom (λ t. tt) (λ t. tt) N (IsSubOf Block) cs all) (loose_forms AnyAtom (λ t. tt) (λ t. tt) N (IsSubOf Block) (λ t. tt) cs) o fresh args
        (λ x is. tt) (each_every (IsAsked loose fits_loose) (λ z. (tt, λ lit t given. (tt, tt))) (asked_by o args)) (each_every (λ t. ⊤) (λ t. tt) args) (loose_form o args)

cell_is_not_gone : {P : Type 0} (i : PureTerm) → cell i ≡ gone → P
cell_is_not_gone i e = absurd (cc)

bound_is_not_gone : {P : Type 0} → bound ≡ gone → P
bound_is_not_gone e = absurd (cc)

pub table_keeps : (fresh : Option Var) (args : List PureTerm) (cs : List PureChunk) → AreKept Block cs → (o : Option BlockAction) → Each (λ b. AreKept Block b.state) (table o fresh args cs)
table_keeps fresh args cs kept o =
    each_to (Shaped (kept_reading Block)) (λ b. AreKept Block b.state) (table o fresh args cs)
    (λ b is. each_to (IsFine (kept_reading Block)) (IsKept Block) b.state (λ c fine. record { of_memory = fine.holds.0; gone_is_true = fine.holds.1 }) is.state)
    (loose_shaped (KeptAt Block) (λ i t. (refl, λ e. cell_is_not_gone i e)) (λ n. (refl, λ e. bound_is_not_gone e)) (refl, λ e. refl) fresh cs
    (each_to (IsKept Block) (λ c. KeptAt Block c.sub c.val) cs (λ c is. (is.of_memory, is.gone_is_true)) kept) o args)

pub table_misses : (o : Option BlockAction) (fresh : Option Var) (args : List PureTerm) (cs : List PureChunk) → Each (λ b. MissesItsOwn Block b.result) (table o fresh args cs)
table_misses o fresh args cs =
    each_to (Shaped (missed_reading Block)) (λ b. MissesItsOwn Block b.result) (table o fresh args cs) (λ b is. missed_own Block b.result is.result)
    (loose_shaped (λ s t. ⊤) (λ i t. tt) (λ n. tt) tt fresh cs (each_every (λ c. ⊤) (λ c. tt) cs) o args)

-- ---- the laws

-- an action that blocks don't have fails
module _ (action : List ℕ) (fresh : Option Var) (args : List PureTerm) (cs : List PureChunk) (is_none : action_of action ≡ None) where
  unknown_is : (vars : List Sort) (v args' : List PureValue) (h : Heap) → Serves (StandFor Block) terms_of vars v fresh args cs args' h → IsRight Block v (block_actions.act action (fresh_symbol v fresh) args' h) (unknown_action cs)
  unknown_is vars v args' h serves =
      fails_always vars v h cs serves.proper (chunk_by_chunk (IsOver vars) cs (each_right (IsOver vars) args (all_of (terms_of cs)) serves.over)) serves.has_heap
      (block_actions.act action (fresh_symbol v fresh) args' h) Failure.Action (ap (λ o. act_of o (fresh_symbol v fresh) args' h) is_none)

  unknown_right : AreRight action fresh args cs (unknown_action cs)
  unknown_right = record {
    cover = λ vars v args' h serves. let right = unknown_is vars v args' h serves in covered Block v (block_actions.act action (fresh_symbol v fresh) args' h) (unknown_action cs) right.exact right.taken;
    exact = λ vars v args' h serves. (unknown_is vars v args' h serves).exact;
  }

right_by : (op : BlockAction) (action : List ℕ) (fresh : Option Var) (args : List PureTerm) (cs : List PureChunk) → action_of action ≡ Some op → MayBeAsked block_actions action fresh args (terms_of cs) → AreRight action fresh args cs (branches_by op fresh args cs)
right_by BlockAction.Alloc action fresh args cs is asked = alloc_is_right action fresh args cs is asked
right_by BlockAction.Load action fresh args cs is asked = load_is_right action fresh args cs is asked
right_by BlockAction.Store action fresh args cs is asked = store_is_right action fresh args cs is asked
right_by BlockAction.Free action fresh args cs is asked = free_is_right action fresh args cs is asked

table_right : (o : Option BlockAction) (action : List ℕ) (fresh : Option Var) (args : List PureTerm) (cs : List PureChunk) → action_of action ≡ o → MayBeAsked block_actions action fresh args (terms_of cs) → AreRight action fresh args cs (table o fresh args cs)
table_right None action fresh args cs is asked = unknown_right action fresh args cs is
table_right (Some op) action fresh args cs is asked = right_by op action fresh args cs is asked

module _ (o : Option BlockAction) (action : List ℕ) (fresh : Option Var) (args : List PureTerm) (cs : List PureChunk) (is : action_of action ≡ o) (asked : MayBeAsked block_actions action fresh args (terms_of cs)) where
  pub table_law : ActLaw (StandFor Block) terms_of block_actions action fresh args (asked_by o args, formed_by o args) cs (table o fresh args cs)
  table_law = record {
    cover = (table_right o action fresh args cs is asked).cover;
    exact = (table_right o action fresh args cs is asked).exact;
    variables = λ vars over fresh_over. over_named fresh args cs o vars over fresh_over;
    own = shaped_conds (table o fresh args cs) (own fresh args cs o) (own_shaped fresh cs o args);
    made = shaped_terms (table o fresh args cs) (own fresh args cs o) (own_shaped fresh cs o args);
  }

  pub table_plain : ActsPlainly (λ ds. IsPlainState Block (terms_of ds)) action args cs (table o fresh args cs)
  table_plain low high plain arguments =
      each_to (Shaped (plain_reading Block (low -ℤ growth) (high +ℤ growth))) _ (table o fresh args cs)
      (λ b fine. (fine.conds, (state_plain Block (low -ℤ growth) (high +ℤ growth) b.state fine.state, fine_terms (plain_reading Block (low -ℤ growth) (high +ℤ growth)) b.result fine.result)))
      (plain_shaped action fresh args cs o is asked.of_sort low high plain arguments)
