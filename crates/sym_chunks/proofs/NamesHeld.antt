-- Names that are listed: their literal forms, and those that no chunk holds.
use Rattle.std.proofs.Common.{◌≡◌, ⊎_elim, inl, inr, ℕ, List, [], ◌∷◌, Bool, true, false, ◌&&◌, if◌then◌else◌, Some, IsTrue, refl, sym, ap, subst, ◌∙◌, true≢false}
use Rattle.std.proofs.lemmas.Bool.{and_parts, or_cases}
use Rattle.gil_values.specs.Pure.{PureValue, symbol, text}
use Rattle.mem_model.specs.declared.keys.Sub.TheVariants.{Name}
use Rattle.mem_model.specs.Heaps.{Heap, Holds, HasKey}
use Rattle.mem_model.specs.Keys.{key}
use Rattle.mem_model.specs.Names.{is_name_list, lists_name}
use Rattle.mem_model.proofs.Joins.{has_key}
use Rattle.pure_terms.specs.declared.literals.Literal.{Literal}
use Rattle.pure_terms.specs.declared.variables.Sort.{Sort}
use Rattle.pure_terms.specs.Equality.{same_term}
use Rattle.pure_terms.specs.EqualityLaws.{same_term-same}
use Rattle.pure_terms.specs.Meaning.{literal_value, value, all_true, IsProper, IsOver}
use Rattle.pure_terms.specs.Pure.{PureTerm, literal, variable, list_of, unary_of, binary_of, to_list}
use Rattle.sym_chunks.specs.Forms.{form_of}
use Rattle.sym_chunks.specs.Keys.{same_sub}
use Rattle.sym_chunks.specs.Laws.{IsLocation, IsKeyOf}
use Rattle.sym_chunks.specs.NameTerms.{is_name, holds_name, unheld_name, unheld}
use Rattle.sym_model.specs.Alternatives.{Alternatives, Hold, never, same}
use Rattle.sym_model.proofs.Combined.{both_from}
use Rattle.sym_model.specs.Lists.{Each, OneOf}
use Rattle.sym_model.specs.Meaning.{location_of, name_of, key_of}
use Rattle.sym_model.specs.Pure.{PureSub, named, cell, shape, bound, dom, proto, gone, PureChunk}
use Rattle.sym_model.specs.Terms.{is_list_term}
use Rattle.sym_model.proofs.ListLaws.{same_some, one_to, one_with, one_flat, one_flattened}
use Rattle.sym_chunks.proofs.CaseLaws.{form_holds}
use Rattle.sym_chunks.proofs.ChunkFacts.{lies_at, lies_there, val_over, val_is}
use Rattle.sym_chunks.proofs.Facts.{Fact, key_tells, loc_tells}
use Rattle.sym_chunks.proofs.NameLists.{listed_holds, holds_listed}

-- ---- forms

no_name_list : (k : Literal) → is_name_list (literal_value k) ≡ false
no_name_list (Literal.Int i) = refl
no_name_list (Literal.Bool b) = refl
no_name_list (Literal.Str s) = refl
no_name_list (Literal.Kind k) = refl
no_name_list (Literal.Proc s) = refl

-- names that are no list term are a term whose form is needed
pub form_is_needed : (v : List PureValue) (t : PureTerm) (w : PureValue) (x : Alternatives) → is_list_term t ≡ false → value v t ≡ Some w → is_name_list w ≡ true → Hold v x → Hold v (form_of t x)
form_is_needed v (list_of ts) w x no_list is names holds = absurd (true≢false no_list)
form_is_needed v (literal k) w x no_list is names holds = absurd (true≢false (sym names ∙ ap is_name_list (sym (same_some is)) ∙ no_name_list k))
form_is_needed v (variable y) w x no_list is names holds = form_holds v (variable y) w x is holds
form_is_needed v (unary_of op t) w x no_list is names holds = form_holds v (unary_of op t) w x is holds
form_is_needed v (binary_of op s t) w x no_list is names holds = form_holds v (binary_of op s t) w x is holds

-- ---- chunks of these very terms

and_both : (b c : Bool) → (b && c) ≡ true → (b ≡ true) × (c ≡ true)
and_both b c is = let parts = and_parts b c is in (parts.0, parts.1)

name_is : (e : PureTerm) (s : PureSub) → is_name e s ≡ true → s ≡ named e
name_is e (named q) is = ap named (same_term-same q e is)
name_is e (cell q) is = absurd (true≢false (sym is))
name_is e shape is = absurd (true≢false (sym is))
name_is e bound is = absurd (true≢false (sym is))
name_is e dom is = absurd (true≢false (sym is))
name_is e proto is = absurd (true≢false (sym is))
name_is e gone is = absurd (true≢false (sym is))

-- a chunk has these very terms
holds_parts : (m e : PureTerm) (cs : List PureChunk) → holds_name m cs e ≡ true → OneOf (λ c. (c.loc ≡ m) × (c.sub ≡ named e)) cs
holds_parts m e [] is = absurd (true≢false (sym is))
holds_parts m e (c ∷ cs) is =
    ⊎_elim (λ here. let parts = and_both (same_term c.loc m) (is_name e c.sub) here in inl (same_term-same c.loc m parts.0, name_is e c.sub parts.1))
    (λ later. inr (holds_parts m e cs later))
    (or_cases (same_term c.loc m && is_name e c.sub) (holds_name m cs e) is)

-- ---- the name p of a location

module _ (vars : List Sort) (v : List PureValue) (h : Heap) (proper : IsProper vars v) (cs : List PureChunk) (facts : Each (Fact vars v h) cs) (l : PureTerm) (a : ℕ) (asked : IsLocation vars v l a) (p : PureTerm) (n : List ℕ) (over_p : IsOver vars p) (is_p : value v p ≡ Some (text n)) where
  pub name_asked : IsKeyOf vars v l (named p) (key a (Name n))
  name_asked = record { over_loc = asked.over; over_sub = (over_p, tt); is = λ i. key_of (location_of (asked.is i)) (name_of (is_p i)) }

  if_parts : (b : Bool) (x : Alternatives) → Hold v (if b then never else x) → Hold v x
  if_parts true x holds = absurd holds
  if_parts false x holds = holds

  if_from : (b : Bool) (x : Alternatives) → (b ≡ true → ⊥) → Hold v x → Hold v (if b then never else x)
  if_from true x isnt holds = absurd (isnt refl)
  if_from false x isnt holds = holds

  module _ (c : PureChunk) (f : Fact vars v h c) (here : f.k.loc ≡ a) where
    pub unheld_by : (t : PureTerm) → c.val ≡ t → Hold v (unheld p c.loc cs t) → lists_name f.w n ≡ true
    unheld_by (list_of ts) is_t holds =
        listed_holds vars v proper p n over_p is_p ts f.w (val_over vars v h c f (list_of ts) is_t) (val_is vars v h c f (list_of ts) is_t)
        (one_flat (λ conds. IsTrue (all_true v conds)) (same p) (to_list ts)
        (one_to (λ e. Hold v (unheld_name p c.loc cs e)) (λ e. Hold v (same p e)) (to_list ts) (λ e is. if_parts (holds_name c.loc cs e) (same p e) is)
        (one_flattened (λ conds. IsTrue (all_true v conds)) (unheld_name p c.loc cs) (to_list ts) holds)))
    unheld_by t is_t holds = absurd holds

    -- a chunk of that very name would be one of the name that the heap lacks
    unheld_name_by : ¬ HasKey h (key a (Name n)) → (e : PureTerm) → Hold v (same p e) → holds_name c.loc cs e ≡ true → ⊥
    unheld_name_by no_name e is holds =
        one_with (Fact vars v h) (λ d. (d.loc ≡ c.loc) × (d.sub ≡ named e)) cs facts (holds_parts c.loc e cs holds)
        (λ d g (same_loc, same_name).
        let lies : value v d.loc ≡ Some (symbol a) = ap (value v) same_loc ∙ lies_at vars v h proper l a asked c f here in
        let there = lies_there vars v h proper l a asked d g lies in
        let e_k : g.k ≡ key a (Name n) = (key_tells vars v h proper d g l (named p) (key a (Name n)) name_asked).0
        (both_from v (same l d.loc) (same_sub (named p) d.sub) ((loc_tells vars v h proper d g l a asked).1 there) (subst (λ s. Hold v (same_sub (named p) s)) (sym same_name) is)) in
        no_name (has_key h (key a (Name n)) g.w (subst (λ q. Holds h q g.w) e_k g.held)))

    pub by_unheld : ¬ HasKey h (key a (Name n)) → lists_name f.w n ≡ true → (t : PureTerm) → c.val ≡ t → is_list_term t ≡ true → Hold v (unheld p c.loc cs t)
    by_unheld no_name is_named (list_of ts) is_t is_list =
        one_flat (λ conds. IsTrue (all_true v conds)) (unheld_name p c.loc cs) (to_list ts)
        (one_to (λ e. Hold v (same p e)) (λ e. Hold v (unheld_name p c.loc cs e)) (to_list ts) (λ e is. if_from (holds_name c.loc cs e) (same p e) (unheld_name_by no_name e is) is)
        (one_flattened (λ conds. IsTrue (all_true v conds)) (same p) (to_list ts)
        (holds_listed vars v proper p n over_p is_p ts f.w (val_over vars v h c f (list_of ts) is_t) (val_is vars v h c f (list_of ts) is_t) is_named)))
    by_unheld no_name is_named t is_t is_list = absurd (true≢false (sym is_list))
