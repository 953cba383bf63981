-- Literal texts that differ have no fault as names of a record, and nothing is asked of them.
use Rattle.std.proofs.Common.{◌≡◌, ℕ, List, [], ◌∷◌, ◌++◌, map, Bool, true, false, not, ◌&&◌, ◌||◌, refl, sym, ap, ◌∙◌, true≢false, if◌then◌else◌}
use Rattle.std.specs.List.{list_any}
use Rattle.std.specs.Str.{bytes_eq}
use Rattle.std.proofs.lemmas.Bool.{and_parts}
use Rattle.std.proofs.lemmas.List.{append-nil}
use Rattle.gil_values.specs.Equality.{same_value}
use Rattle.gil_values.specs.Pure.{PureValue, text}
use Rattle.mem_model.specs.Names.{is_text, are_distinct_texts}
use Rattle.pure_terms.specs.declared.literals.Literal.{Literal}
use Rattle.pure_terms.specs.Pure.{PureTerm, positive, negative, literal, variable, list_of, unary_of, binary_of}
use Rattle.record_sym.specs.LiteralNames.{name_value}
use Rattle.record_sym.specs.Table.{faulty}
use Rattle.sym_chunks.specs.NameTerms.{distinct_from}
use Rattle.sym_model.specs.Alternatives.{Alternatives, always, both, any, all_from, same, other, given, equal, by_comparison}
use Rattle.sym_model.specs.declared.comparing.Comparison.{Comparison}

is_literal_text : (t : PureTerm) → is_text (name_value t) ≡ true → (x : List ℕ) × (t ≡ literal (Literal.Str x))
is_literal_text (literal (Literal.Str x)) h = (x, refl)
is_literal_text (literal (Literal.Int n)) h = absurd (true≢false (sym h))
is_literal_text (literal (Literal.Bool b)) h = absurd (true≢false (sym h))
is_literal_text (literal (Literal.Kind k)) h = absurd (true≢false (sym h))
is_literal_text (literal (Literal.Proc f)) h = absurd (true≢false (sym h))
is_literal_text (variable x) h = absurd (true≢false (sym h))
is_literal_text (list_of ts) h = absurd (true≢false (sym h))
is_literal_text (unary_of op t) h = absurd (true≢false (sym h))
is_literal_text (binary_of op s t) h = absurd (true≢false (sym h))

abbrev texts : List PureTerm → Bool
texts ts = are_distinct_texts (map name_value ts)

abbrev holds_text : List ℕ → List PureTerm → Bool
holds_text x ts = list_any (same_value (text x)) (map name_value ts)

-- what distinct texts are, one by one
record First (t : PureTerm) (ts : List PureTerm) : Type 0 where
  name : List ℕ
  is : t ≡ literal (Literal.Str name)
  new : holds_text name ts ≡ false
  others : texts ts ≡ true

not_true : (b : Bool) → not b ≡ true → b ≡ false
not_true true h = absurd (true≢false (sym h))
not_true false h = refl

first_of_texts : (t : PureTerm) (ts : List PureTerm) → texts (t ∷ ts) ≡ true → First t ts
first_of_texts t ts h =
    let outer = and_parts (is_text (name_value t) && not (list_any (same_value (name_value t)) (map name_value ts))) _ h in
    let inner = and_parts (is_text (name_value t)) _ outer.0 in
    let found = is_literal_text t inner.0 in
    record {
      name = found.0;
      is = found.1;
      new = ap (λ (u : PureTerm). list_any (same_value (name_value u)) (map name_value ts)) (sym found.1) ∙ not_true _ inner.1;
      others = outer.1;
    }

both_always : (x : Alternatives) → both x always ≡ x
both_always [] = refl
both_always (c ∷ cs) = λ i. append-nil c i ∷ both_always cs i

abbrev here : List ℕ → PureTerm
here x = literal (Literal.Str x)

-- texts that differ are never equal, and always different
never_same : (x y : List ℕ) → bytes_eq x y ≡ false → same (here x) (here y) ≡ []
never_same x y h = ap (λ (b : Bool). by_comparison (if b then Comparison.Same else Comparison.Different) always [] (given (positive (equal (here x) (here y))))) h

always_other : (x y : List ℕ) → bytes_eq x y ≡ false → other (here x) (here y) ≡ always
always_other x y h = ap (λ (b : Bool). by_comparison (if b then Comparison.Same else Comparison.Different) [] always (given (negative (equal (here x) (here y))))) h

neither : (a b : Bool) → (a || b) ≡ false → (a ≡ false) × (b ≡ false)
neither true b e = absurd (true≢false e)
neither false b e = (refl, e)

none_same : (x : List ℕ) (ts : List PureTerm) → texts ts ≡ true → holds_text x ts ≡ false → any (same (here x)) ts ≡ []
none_same x [] h new = refl
none_same x (t ∷ ts) h new =
    let p = first_of_texts t ts h in
    let q = neither _ _ (ap (λ (u : PureTerm). holds_text x (u ∷ ts)) (sym p.is) ∙ new) in
    ap (λ (u : PureTerm). any (same (here x)) (u ∷ ts)) p.is
    ∙ ap (λ (y : Alternatives). y ++ any (same (here x)) ts) (never_same x p.name q.0)
    ∙ none_same x ts p.others q.1

all_other : (when : Alternatives) (x : List ℕ) (ts : List PureTerm) → texts ts ≡ true → holds_text x ts ≡ false → all_from when (other (here x)) ts ≡ when
all_other when x [] h new = refl
all_other when x (t ∷ ts) h new =
    let p = first_of_texts t ts h in
    let q = neither _ _ (ap (λ (u : PureTerm). holds_text x (u ∷ ts)) (sym p.is) ∙ new) in
    ap (λ (u : PureTerm). all_from when (other (here x)) (u ∷ ts)) p.is
    ∙ ap (λ (y : Alternatives). all_from (both when y) (other (here x)) ts) (always_other x p.name q.0)
    ∙ ap (λ (y : Alternatives). all_from y (other (here x)) ts) (both_always when)
    ∙ all_other when x ts p.others q.1

no_faults : (ts : List PureTerm) → texts ts ≡ true → faulty ts ≡ []
no_faults [] h = refl
no_faults (t ∷ ts) h =
    let p = first_of_texts t ts h in
    ap (λ (u : PureTerm). faulty (u ∷ ts)) p.is
    ∙ ap (λ (y : Alternatives). y ++ faulty ts) (none_same p.name ts p.others p.new)
    ∙ no_faults ts p.others

nothing_asked : (when : Alternatives) (ts : List PureTerm) → texts ts ≡ true → distinct_from when ts ≡ when
nothing_asked when [] h = refl
nothing_asked when (t ∷ ts) h =
    let p = first_of_texts t ts h in
    ap (λ (u : PureTerm). distinct_from when (u ∷ ts)) p.is
    ∙ ap (λ (y : Alternatives). distinct_from (all_from y (other (here p.name)) ts) ts) (both_always when)
    ∙ ap (λ (y : Alternatives). distinct_from y ts) (all_other when p.name ts p.others p.new)
    ∙ nothing_asked when ts p.others

-- the same of terms as the code has them
each : {V : Type 0} (view : V → PureTerm) (vs : List V) → map name_value (map view vs) ≡ map (λ v. name_value (view v)) vs
each view [] = refl
each view (v ∷ vs) = ap (λ (ws : List PureValue). name_value (view v) ∷ ws) (each view vs)

pub never_faulty : {V : Type 0} (view : V → PureTerm) (vs : List V) → are_distinct_texts (map (λ v. name_value (view v)) vs) ≡ true → [] ≡ faulty (map view vs)
never_faulty view vs h = sym (no_faults (map view vs) (ap are_distinct_texts (each view vs) ∙ h))

pub surely_distinct : {V : Type 0} (view : V → PureTerm) (when : Alternatives) (vs : List V) → are_distinct_texts (map (λ v. name_value (view v)) vs) ≡ true
    → when ≡ distinct_from when (map view vs)
surely_distinct view when vs h = sym (nothing_asked when (map view vs) (ap are_distinct_texts (each view vs) ∙ h))
