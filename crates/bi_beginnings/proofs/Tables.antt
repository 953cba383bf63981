-- Variables in turn, and tables of entries.
use Rattle.std.proofs.Common.{◌≡◌, ⊎_elim, ℕ, nat_eq, zero, suc, ◌+◌, ◌<◌, ◌≤◌, List, [], ◌∷◌, ◌++◌, map, length, slice_get, true, false, ◌||◌, Some, IsTrue, refl, sym, ap, subst, ◌∙◌, append_assoc, arith, rules}
use Rattle.std.specs.List.{list_all, list_any}
use Rattle.std.proofs.lemmas.Bool.{cases_lt, and_from, or_left, or_right, eq-eqb}
use Rattle.std.proofs.lemmas.List.{length-append, length-map}
use Rattle.std.proofs.lemmas.List.Elements.{Contains-push_cases}
use Rattle.std.proofs.lemmas.List.Folds.{list_all-append, list_any-append}
use Rattle.std.proofs.lemmas.Option.{slice_get_within}
use Rattle.gil_values.proofs.OperatorSymbols.{none_contained}
use Rattle.fresh_atoms.specs.Laws.{is_any_or_list}
use Rattle.mem_model.specs.declared.keys.MemoryName.{MemoryName}
use Rattle.pure_terms.specs.declared.terms.Term.{Term, the_lemmas}
use Rattle.pure_terms.specs.declared.variables.Sort.{Sort}
use Rattle.pure_terms.specs.declared.variables.Var.{Var}
use Rattle.pure_terms.specs.Meaning.{IsOver}
use Rattle.pure_terms.specs.Naming.{names_number}
use Rattle.pure_terms.specs.Pure.{PureTerm, variable, term_of}
use Rattle.pure_terms.specs.View.{term_view}
use Rattle.pure_terms.proofs.VariableLaws.{slice_get-append, stay_when_tables_grow}
use Rattle.sym_model.specs.Cores.{TakesBoth}
use Rattle.sym_model.specs.Lists.{Each}
use Rattle.sym_model.specs.Pure.{PureFix, PureUse}
use Rattle.sym_model.specs.Terms.{AreEachOver}
use Rattle.sym_model.proofs.ListLaws.{same_some, not_none, each_append, each_to}
use Rattle.bi_beginnings.specs.Beginnings.{any_for_each, variables_from, IsEntryTable, PureBeginning, is_named_by, IsBeginning}
use Rattle.bi_beginnings.specs.Fixing.{IsFixOver}

-- ---- lists

get_front : {X : Type 0} (xs ys : List X) (i : ℕ) (x : X) → slice_get xs i ≡ Some x → slice_get (xs ++ ys) i ≡ Some x
get_front xs ys i x is = slice_get-append xs ys i (slice_get_within xs i x is) ∙ is

pub get_back : {X : Type 0} (xs ys : List X) (i k : ℕ) → i ≡ length xs + k → slice_get (xs ++ ys) i ≡ slice_get ys k
get_back [] ys i k e = ap (slice_get ys) (omega (arith, e))
get_back (x ∷ xs) ys zero k e = absurd (omega (arith, e))
get_back (x ∷ xs) ys (suc i) k e = get_back xs ys i k (omega (arith, e))

pub each_pushed : {A B : Type 0} (P : B → Type 0) (f : A → B) (xs : List A) (x : A) → Each P (map f xs) → P (f x) → Each P (map f (xs ++ x ∷ []))
each_pushed P f [] x before here = (here, tt)
each_pushed P f (y ∷ ys) x before here = (before.0, each_pushed P f ys x before.1 here)

-- ---- variables

pub over_variable : (vars : List Sort) (x : Var) → slice_get vars x.number ≡ Some x.sort → IsOver vars (variable x)
over_variable vars x at y has =
    ⊎_elim (λ none. absurd (none_contained y none)) (λ same. subst (λ (z : Var). slice_get vars z.number ≡ Some z.sort) same at) (Contains-push_cases [] x y has)

pub variable_seen : (x : Var) → term_view (Term.Var x) ≡ variable x
variable_seen x = search (rules, the_lemmas)

pub as_many_variables : (n : ℕ) (sorts : List Sort) → length (variables_from n sorts) ≡ length sorts
as_many_variables n [] = refl
as_many_variables n (s ∷ sorts) = ap suc (as_many_variables (suc n) sorts)

pub one_more : (n m : ℕ) (sorts : List Sort) (s : Sort) → m ≡ n + length sorts → variables_from n (sorts ++ s ∷ []) ≡ variables_from n sorts ++ variable (record { number = m; sort = s }) ∷ []
one_more n m [] s is = ap (λ k. variable (record { number = k; sort = s }) ∷ []) (omega (arith, is))
one_more n m (t ∷ sorts) s is = ap (λ ts. variable (record { number = n; sort = t }) ∷ ts) (one_more (suc n) m sorts s (omega (arith, is)))

-- a table and its new variables, where one is added for a further sort
pub table_more : (old now next front more : List Sort) (s : Sort) → now ≡ old ++ front → next ≡ now ++ s ∷ [] → more ≡ front ++ s ∷ [] → next ≡ old ++ more
table_more old now next front more s before pushed is = pushed ∙ ap (λ (t : List Sort). t ++ s ∷ []) before ∙ append_assoc old front (s ∷ []) ∙ ap (λ (t : List Sort). old ++ t) (sym is)

pub variables_more : (n m : ℕ) (now next : List PureTerm) (front more : List Sort) (s : Sort) → now ≡ variables_from n front → next ≡ now ++ variable (record { number = m; sort = s }) ∷ [] → m ≡ n + length front
    → more ≡ front ++ s ∷ [] → next ≡ variables_from n more
variables_more n m now next front more s before pushed at is =
    pushed ∙ ap (λ (ts : List PureTerm). ts ++ variable (record { number = m; sort = s }) ∷ []) before ∙ sym (one_more n m front s at) ∙ ap (variables_from n) (sym is)

are_over_there : (vars : List Sort) (n : ℕ) (sorts : List Sort) → ((i : ℕ) (s : Sort) → slice_get sorts i ≡ Some s → slice_get vars (n + i) ≡ Some s) → AreEachOver vars (variables_from n sorts)
are_over_there vars n [] at = tt
are_over_there vars n (s ∷ sorts) at = (
  over_variable vars (record { number = n; sort = s }) (ap (slice_get vars) (omega arith) ∙ at 0 s refl),
  are_over_there vars (suc n) sorts (λ i t is. ap (slice_get vars) (omega arith) ∙ at (suc i) t is),
)

-- the first variables of a table, and the last ones, are over it
pub first_over : (sorts others : List Sort) → AreEachOver (sorts ++ others) (variables_from 0 sorts)
first_over sorts others = are_over_there (sorts ++ others) 0 sorts (λ i s is. ap (slice_get (sorts ++ others)) (omega arith) ∙ get_front sorts others i s is)

pub last_over : (vars sorts : List Sort) → AreEachOver (vars ++ sorts) (variables_from (length vars) sorts)
last_over vars sorts = are_over_there (vars ++ sorts) (length vars) sorts (λ i s is. get_back vars sorts (length vars + i) i refl ∙ is)

pub over_more : (vars more : List Sort) (ts : List PureTerm) → AreEachOver vars ts → AreEachOver (vars ++ more) ts
over_more vars more ts all = each_to (IsOver vars) (IsOver (vars ++ more)) ts (λ t over. stay_when_tables_grow.over t vars more over) all

-- ---- parameters

pub as_many_params : (params : List (List ℕ)) → length (any_for_each params) ≡ length params
as_many_params params = length-map params (λ x. Sort.Any)

pub params_fit : (params : List (List ℕ)) (vars : List Sort) → IsEntryTable params vars → length params ≤ length vars
params_fit params vars table =
    let all : length vars ≡ length (any_for_each params) + length table.others = ap length table.table ∙ length-append (any_for_each params) table.others in
    omega (arith, all, as_many_params params)

-- the variables of the parameters are over a table of an entry
pub params_over : (params : List (List ℕ)) (vars : List Sort) → IsEntryTable params vars → AreEachOver vars (variables_from 0 (any_for_each params))
params_over params vars table = subst (λ (all : List Sort). AreEachOver all (variables_from 0 (any_for_each params))) (sym table.table) (first_over (any_for_each params) table.others)

-- ---- numbers of variables

-- each number of the variables from one on is named
variables_named : (n : ℕ) (sorts : List Sort) (k : ℕ) → n ≤ k → k < n + length sorts → list_any (names_number k) (variables_from n sorts) ≡ true
variables_named n [] k past within = absurd (omega (arith, past, within))
variables_named n (s ∷ sorts) k past within =
    let first = nat_eq k n || false in
    let others = list_any (names_number k) (variables_from (suc n) sorts) in
    ⊎_elim
    (λ later. or_right first others (variables_named (suc n) sorts k (omega (arith, later)) (omega (arith, within))))
    (λ before. or_left first others (or_left (nat_eq k n) false (eq-eqb k n (omega (arith, past, before)))))
    (cases_lt n k)

-- where the table has no variable but those of parameters, there is none to be named
pub first_named : (params : List (List ℕ)) (us : List PureUse) (k : ℕ) → length params ≤ k → k < length (any_for_each params) → IsTrue (is_named_by us k)
first_named params us k past within =
    let many = as_many_params params in
    absurd (omega (arith, past, within, many))

-- ---- beginnings

pub larger_table : (params : List (List ℕ)) (vars more : List Sort) → IsEntryTable params vars → IsTrue (list_all is_any_or_list more) → IsEntryTable params (vars ++ more)
larger_table params vars more table sorts = record {
  others = table.others ++ more;
  table = ap (λ (all : List Sort). all ++ more) table.table ∙ append_assoc (any_for_each params) table.others more;
  sorts = list_all-append is_any_or_list table.others more ∙ and_from (list_all is_any_or_list table.others) (list_all is_any_or_list more) table.sorts sorts;
}

module _ (memory : MemoryName) (params : List (List ℕ)) (b : PureBeginning) (is : IsBeginning memory params b) where
  -- other conditions over the table may be carried
  pub carrying : (c : PureBeginning) → c.vars ≡ b.vars → c.uses ≡ b.uses → Each (λ a. IsOver b.vars (term_of a)) c.conds → IsBeginning memory params c
  carrying c vars uses over = record {
    table = subst (IsEntryTable params) (sym vars) is.table;
    uses = subst (λ (us : List PureUse). Each (IsUse c.vars) us) (sym uses) (subst (λ (all : List Sort). Each (IsUse all) b.uses) (sym vars) is.uses);
    conds = subst (λ (all : List Sort). Each (λ a. IsOver all (term_of a)) c.conds) (sym vars) over;
    named = λ k past within. subst (λ (us : List PureUse). IsTrue (is_named_by us k)) (sym uses) (is.named k past (subst (λ (all : List Sort). k < length all) vars within));
  }
    where
      IsUse : List Sort → PureUse → Type 0
      IsUse all u = TakesBoth memory u.core u.ins u.outs × AreEachOver all (u.ins ++ u.outs)

  module _ (f : PureFix) (fits : IsFixOver memory b.vars f) where
    abbrev new_use : PureUse
    new_use = record { core = f.core; ins = f.ins; outs = variables_from (length b.vars) f.outs }

    abbrev IsUse : PureUse → Type 0
    IsUse u = TakesBoth memory u.core u.ins u.outs × AreEachOver (b.vars ++ f.outs) (u.ins ++ u.outs)

    new_is : IsUse new_use
    new_is = (
      record {
        core = fits.numbers.core;
        of_memory = fits.numbers.of_memory;
        ins_number = fits.numbers.ins_number;
        outs_number = as_many_variables (length b.vars) f.outs ∙ fits.numbers.outs_number;
      },
      each_append (IsOver (b.vars ++ f.outs)) f.ins (variables_from (length b.vars) f.outs) (over_more b.vars f.outs f.ins fits.ins_over) (last_over b.vars f.outs),
    )

    -- a variable of the larger table stands in an old use, or is an out of the new one
    all_named : (k : ℕ) → length params ≤ k → k < length (b.vars ++ f.outs) → is_named_by (b.uses ++ new_use ∷ []) k ≡ true
    all_named k past within =
        let old = is_named_by b.uses k in
        let new = is_named_by (new_use ∷ []) k in
        list_any-append (λ u. list_any (names_number k) (u.ins ++ u.outs)) b.uses (new_use ∷ [])
        ∙ ⊎_elim (λ before. or_left old new (is.named k past before)) (λ behind. or_right old new (out_named behind)) (cases_lt k (length b.vars))
      where
        out_named : length b.vars ≤ k → is_named_by (new_use ∷ []) k ≡ true
        out_named behind =
            let all : length (b.vars ++ f.outs) ≡ length b.vars + length f.outs = length-append b.vars f.outs in
            let outs = variables_from (length b.vars) f.outs in
            or_left (list_any (names_number k) (f.ins ++ outs)) false
            (list_any-append (names_number k) f.ins outs
            ∙ or_right (list_any (names_number k) f.ins) (list_any (names_number k) outs) (variables_named (length b.vars) f.outs k behind (omega (arith, within, all))))

    -- and a fix may have a use, with new variables for its outs
    pub with_use : (c : PureBeginning) → c.vars ≡ b.vars ++ f.outs → c.uses ≡ b.uses ++ record { core = f.core; ins = f.ins; outs = variables_from (length b.vars) f.outs } ∷ [] → c.conds ≡ b.conds → IsBeginning memory params c
    with_use c vars uses conds =
        let larger : IsBeginning memory params (record { vars = b.vars ++ f.outs; uses = b.uses ++ new_use ∷ []; conds = b.conds; place = c.place; choices = c.choices }) = record {
          table = larger_table params b.vars f.outs is.table fits.sorts;
          uses = each_append IsUse b.uses (new_use ∷ []) (each_to (λ u. TakesBoth memory u.core u.ins u.outs × AreEachOver b.vars (u.ins ++ u.outs)) IsUse b.uses (λ u old. (old.0, over_more b.vars f.outs (u.ins ++ u.outs) old.1)) is.uses) (new_is, tt);
          conds = each_to (λ a. IsOver b.vars (term_of a)) (λ a. IsOver (b.vars ++ f.outs) (term_of a)) b.conds (λ a over. stay_when_tables_grow.over (term_of a) b.vars f.outs over) is.conds;
          named = all_named;
        } in
        subst (λ (d : PureBeginning). IsBeginning memory params d) (λ i. record { vars = sym vars i; uses = sym uses i; conds = sym conds i; place = c.place; choices = c.choices }) larger

-- ---- the first element

pub first_element : {X : Type 0} (xs : List X) (x : X) → slice_get xs 0 ≡ Some x → (later : List X) × (xs ≡ x ∷ later)
first_element [] x at = not_none at
first_element (y ∷ ys) x at = (ys, ap (λ z. z ∷ ys) (same_some at))

pub none_there : {X : Type 0} (xs : List X) → length xs ≡ 0 → xs ≡ []
none_there [] none = refl
none_there (x ∷ xs) none = absurd (omega (arith, none))
