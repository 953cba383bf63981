-- Normal forms of the terms of a table, and of terms that get normal parts.
use Rattle.std.proofs.Common.{Result, Ok, Err, IfOk, ◌≡◌, ◌⊎◌, inl, inr, ℕ, zero, suc, ◌<◌, ◌≤◌, ◌+◌, List, [], ◌∷◌, ◌++◌, map, length, slice_get, get_or, append-nil, Option, Some, None, refl, sym, ap, ◌∙◌, subst, arith}
use Rattle.std.specs.List.{All, AllZip}
use Rattle.std.proofs.lemmas.List.{length-map}
use Rattle.std.proofs.lemmas.List.Elements.{All-nil, All-cons, All-append, All-same, All-get_or}
use Rattle.std.proofs.lemmas.Option.{same_Some, get_or_from_slice_get, slice_get-get_or}
use Rattle.gil_values.proofs.Lists.{slice_get-read}
use Rattle.pure_terms.specs.declared.terms.Term.{Term}
use Rattle.pure_terms.specs.View.{term_view}
use Rattle.pure_terms.specs.Pure.{PureTerm, literal, variable, list_of, unary_of, binary_of, PureTerms, no_terms, term_and, from_list, to_list, size, sizes, subterms, subterms_of_all}
use Rattle.pure_terms.specs.Rewriting.{Replaces}
use Rattle.term_table.specs.Nodes.{no_part}
use Rattle.term_table.specs.Tables.{Keeps, Names, NamesBelow, parts_of, term_at, terms_of, with_parts}
use Rattle.term_table.proofs.CallerLemmas.{named_below, all_below, all_keep, terms_at}
use Rattle.rewrite_book.specs.Answers.{Simplifies}
use Rattle.rewrite_book.specs.Nodes.{below}
use Rattle.rewrite_book.specs.Normals.{IsFormBy, IsForm, IsFormBelow, AreForms}
use Rattle.rewrite_book.proofs.Congruence.{replaces-same, replaces-then, replaces-simplified, replaces-size, replaces-unary, replaces-binary, replaces-list, size-element}

-- ---- numbers keep naming their terms

pub form-kept : (nodes : PureTerm → List PureTerm) (P : PureTerm → Type 0) (old ts : List PureTerm) (i m : ℕ) → Keeps old ts → IsFormBy nodes P old i m → IsFormBy nodes P ts i m
form-kept nodes P old ts i m keeps h =
    record { term = h.term; form = h.form; named = keeps i h.term h.named; formed = keeps m h.form h.formed; replaces = h.replaces; done = h.done }

pub forms-kept : (P : PureTerm → Type 0) (old ts : List PureTerm) (forms : List (Option ℕ)) → Keeps old ts → AreForms P old forms → AreForms P ts forms
forms-kept P old ts forms keeps known i m is = form-kept subterms P old ts i m keeps (known i m is)

pub keeps-then : (a b c : List PureTerm) → Keeps a b → Keeps b c → Keeps a c
keeps-then a b c h k i t is = k i t (h i t is)

pub zip-kept : (P : PureTerm → Type 0) (old ts : List PureTerm) (ps ms : List ℕ) → Keeps old ts → AllZip (IsForm P old) ps ms → AllZip (IsForm P ts) ps ms
zip-kept P old ts [] [] keeps z = tt
zip-kept P old ts (p ∷ ps) (m ∷ ms) keeps z = (form-kept subterms P old ts p m keeps z.0, zip-kept P old ts ps ms keeps z.1)
zip-kept P old ts [] (m ∷ ms) keeps z = absurd z
zip-kept P old ts (p ∷ ps) [] keeps z = absurd z

-- a form more is known
pub forms-noted : (P : PureTerm → Type 0) (ts : List PureTerm) (old new : List (Option ℕ)) (id form : ℕ)
    → ((i m : ℕ) → slice_get new i ≡ Some (Some m) → (slice_get old i ≡ Some (Some m)) ⊎ ((i ≡ id) × (m ≡ form)))
    → AreForms P ts old → IsForm P ts id form → AreForms P ts new
forms-noted P ts old new id form noted known is i m at = by (noted i m at)
  where
    by : (slice_get old i ≡ Some (Some m)) ⊎ ((i ≡ id) × (m ≡ form)) → IsForm P ts i m
    by (inl before) = known i m before
    by (inr both) = subst (λ j. IsForm P ts j m) (sym both.0) (subst (IsForm P ts id) (sym both.1) is)

-- ---- parts

list_again : (ts : PureTerms) → from_list (to_list ts) ≡ ts
list_again no_terms = refl
list_again (term_and t ts) = ap (term_and t) (list_again ts)

pub parts-smaller : (t : PureTerm) → sizes (from_list (to_list (parts_of t))) < size t
parts-smaller (literal l) = omega arith
parts-smaller (variable x) = omega arith
parts-smaller (list_of ts) =
    let same : sizes (from_list (to_list ts)) ≡ sizes ts = ap sizes (list_again ts) in
    omega (arith, same)
parts-smaller (unary_of op t) = omega arith
parts-smaller (binary_of op s t) = omega arith

pub replaced-parts : (t : PureTerm) (us : List PureTerm) → AllZip Replaces (to_list (parts_of t)) us → Replaces t (with_parts t us)
replaced-parts (literal l) us z = replaces-same (literal l)
replaced-parts (variable x) us z = replaces-same (variable x)
replaced-parts (list_of ts) us z = subst (λ r. Replaces (list_of r) (list_of (from_list us))) (list_again ts) (replaces-list (to_list ts) us z)
replaced-parts (unary_of op t) [] z = absurd z
replaced-parts (unary_of op t) (u ∷ []) z = replaces-unary op t u z.0
replaced-parts (unary_of op t) (u ∷ w ∷ us) z = absurd z.1
replaced-parts (binary_of op s t) [] z = absurd z
replaced-parts (binary_of op s t) (u ∷ []) z = absurd z.1
replaced-parts (binary_of op s t) (u ∷ w ∷ []) z = replaces-binary op s t u w z.0 z.1.0
replaced-parts (binary_of op s t) (u ∷ w ∷ v ∷ us) z = absurd z.1.1

abbrev EachDone : (PureTerm → Type 0) → List PureTerm → Type 0
EachDone P us = All P (subterms_of_all (from_list us))

each-done : (P : PureTerm → Type 0) (u : PureTerm) (us : List PureTerm) → All P (subterms u) → EachDone P us → EachDone P (u ∷ us)
each-done P u us h k = All-append P (subterms u) (subterms_of_all (from_list us)) h k

first-done : (P : PureTerm → Type 0) (u : PureTerm) → EachDone P (u ∷ []) → All P (subterms u)
first-done P u h = All-same P (subterms u) (subterms u ++ []) (sym append-nil-here) h
  where
    append-nil-here : subterms u ++ [] ≡ subterms u
    append-nil-here = append-nil (subterms u)

pub done-parts : (P : PureTerm → Type 0) (t : PureTerm) (us : List PureTerm) → AllZip Replaces (to_list (parts_of t)) us → EachDone P us → All P (below (with_parts t us))
done-parts P (literal l) us z h = All-nil P
done-parts P (variable x) us z h = All-nil P
done-parts P (list_of ts) us z h = h
done-parts P (unary_of op t) [] z h = absurd z
done-parts P (unary_of op t) (u ∷ []) z h = first-done P u h
done-parts P (unary_of op t) (u ∷ w ∷ us) z h = absurd z.1
done-parts P (binary_of op s t) [] z h = absurd z
done-parts P (binary_of op s t) (u ∷ []) z h = absurd z.1
done-parts P (binary_of op s t) (u ∷ w ∷ []) z h =
    All-same P (subterms u ++ subterms w) (subterms u ++ (subterms w ++ [])) (ap (λ xs. subterms u ++ xs) (sym (append-nil (subterms w)))) h
done-parts P (binary_of op s t) (u ∷ w ∷ v ∷ us) z h = absurd z.1.1

pub parts-replaced : (P : PureTerm → Type 0) (ts : List PureTerm) (ps ms : List ℕ) (us : List PureTerm)
    → AllZip (IsForm P ts) ps ms → AllZip (Names ts) ps us → AllZip Replaces us (map (term_at ts) ms)
parts-replaced P ts [] [] [] a b = tt
parts-replaced P ts (p ∷ ps) (m ∷ ms) (u ∷ us) a b =
    let same : a.0.term ≡ u = same_Some a.0.term u (sym a.0.named ∙ b.0) in
    let at : term_at ts m ≡ a.0.form = get_or_from_slice_get ts m a.0.form no_part a.0.formed in
    let first : Replaces u (term_at ts m) = subst (Replaces u) (sym at) (subst (λ s. Replaces s a.0.form) same a.0.replaces) in
    (first, parts-replaced P ts ps ms us a.1 b.1)
parts-replaced P ts [] (m ∷ ms) us a b = absurd a
parts-replaced P ts (p ∷ ps) [] us a b = absurd a
parts-replaced P ts [] [] (u ∷ us) a b = absurd b
parts-replaced P ts (p ∷ ps) (m ∷ ms) [] a b = absurd b

pub parts-done : (P : PureTerm → Type 0) (ts : List PureTerm) (ps ms : List ℕ) → AllZip (IsForm P ts) ps ms → EachDone P (map (term_at ts) ms)
parts-done P ts [] [] a = All-nil P
parts-done P ts (p ∷ ps) (m ∷ ms) a =
    let at : term_at ts m ≡ a.0.form = get_or_from_slice_get ts m a.0.form no_part a.0.formed in
    each-done P (term_at ts m) (map (term_at ts) ms) (subst (λ s. All P (subterms s)) (sym at) a.0.done) (parts-done P ts ps ms a.1)
parts-done P ts [] (m ∷ ms) a = absurd a
parts-done P ts (p ∷ ps) [] a = absurd a

pub names-only : (ts : List PureTerm) (i : ℕ) (ps : List ℕ) (us : List PureTerm) → AllZip (NamesBelow ts i) ps us → AllZip (Names ts) ps us
names-only ts i [] [] a = tt
names-only ts i (p ∷ ps) (u ∷ us) a = (a.0.1, names-only ts i ps us a.1)
names-only ts i [] (u ∷ us) a = absurd a
names-only ts i (p ∷ ps) [] a = absurd a

pub as_many : (P : PureTerm → Type 0) (ts : List PureTerm) (ps ms : List ℕ) (us : List PureTerm) → AllZip (IsForm P ts) ps ms → AllZip (Names ts) ps us → length ms ≡ length us
as_many P ts [] [] [] a b = refl
as_many P ts (p ∷ ps) (m ∷ ms) (u ∷ us) a b = ap suc (as_many P ts ps ms us a.1 b.1)
as_many P ts [] (m ∷ ms) us a b = absurd a
as_many P ts (p ∷ ps) [] us a b = absurd a
as_many P ts [] [] (u ∷ us) a b = absurd b
as_many P ts (p ∷ ps) (m ∷ ms) [] a b = absurd b

-- the forms name terms
pub forms-named : (P : PureTerm → Type 0) (ts : List PureTerm) (ps ms : List ℕ) → AllZip (IsForm P ts) ps ms → AllZip (Names ts) ms (map (term_at ts) ms)
forms-named P ts [] [] a = tt
forms-named P ts (p ∷ ps) (m ∷ ms) a =
    let at : term_at ts m ≡ a.0.form = get_or_from_slice_get ts m a.0.form no_part a.0.formed in
    (a.0.formed ∙ ap Some (sym at), forms-named P ts ps ms a.1)
forms-named P ts [] (m ∷ ms) a = absurd a
forms-named P ts (p ∷ ps) [] a = absurd a

-- ---- numbers below the length

pub at_place : (table : List Term) (i : ℕ) → i < length table → Names (terms_of table) i (term_at (terms_of table) i)
at_place table i below = slice_get-get_or (terms_of table) i no_part (subst (λ n. i < n) (sym (length-map table term_view)) below)

pub still_below : (old table : List Term) (i : ℕ) → Keeps (terms_of old) (terms_of table) → i < length old → i < length table
still_below old table i keeps below =
    named_below table i (term_at (terms_of old) i) (keeps i (term_at (terms_of old) i) (at_place old i below))

-- a number keeps its term
pub at_kept : (old table : List Term) (i : ℕ) → Keeps (terms_of old) (terms_of table) → i < length old → term_at (terms_of table) i ≡ term_at (terms_of old) i
at_kept old table i keeps below =
    get_or_from_slice_get (terms_of table) i (term_at (terms_of old) i) no_part (keeps i (term_at (terms_of old) i) (at_place old i below))

pub one_term : (ts : List PureTerm) (i : ℕ) (t u : PureTerm) → Names ts i t → Names ts i u → t ≡ u
one_term ts i t u h k = same_Some t u (sym h ∙ k)

pub named_at : (ts : List PureTerm) (i : ℕ) (t : PureTerm) → Names ts i t → term_at ts i ≡ t
named_at ts i t h = get_or_from_slice_get ts i t no_part h

-- ---- the root

pub root_smaller : (P : PureTerm → Type 0) (old table : List Term) (id whole : ℕ) → Keeps (terms_of old) (terms_of table) → id < length old
    → IsFormBelow P (terms_of table) id whole → size (term_at (terms_of table) whole) ≤ size (term_at (terms_of old) id)
root_smaller P old table id whole keeps below f =
    let here : term_at (terms_of table) whole ≡ f.form = named_at (terms_of table) whole f.form f.formed in
    let there : f.term ≡ term_at (terms_of old) id = sym (named_at (terms_of table) id f.term f.named) ∙ at_kept old table id keeps below in
    let less : size f.form ≤ size f.term = replaces-size f.term f.form f.replaces in
    let one : size (term_at (terms_of table) whole) ≡ size f.form = ap size here in
    let other : size f.term ≡ size (term_at (terms_of old) id) = ap size there in
    omega (arith, less, one, other)

pub root_done : (P : PureTerm → Type 0) (ts : List PureTerm) (id whole : ℕ) → IsFormBelow P ts id whole → All P (below (term_at ts whole))
root_done P ts id whole f = subst (λ s. All P (below s)) (sym (named_at ts whole f.form f.formed)) f.done

pub composed : (P : PureTerm → Type 0) (mid ts : List PureTerm) (id whole form : ℕ) → Keeps mid ts → IsFormBelow P mid id whole → IsForm P ts whole form → IsForm P ts id form
composed P mid ts id whole form keeps f h =
    let same : h.term ≡ f.form = one_term ts whole h.term f.form h.named (keeps whole f.form f.formed) in
    record {
      term = f.term;
      form = h.form;
      named = keeps id f.term f.named;
      formed = h.formed;
      replaces = replaces-then f.term f.form h.form f.replaces (subst (λ s. Replaces s h.form) same h.replaces);
      done = h.done;
    }

pub answer_smaller : (old ts : List PureTerm) (whole id : ℕ) (s u : PureTerm) → Names old whole s → Names ts id u → Simplifies s u → size (term_at ts id) < size (term_at old whole)
answer_smaller old ts whole id s u named answered simpler =
    let less : size u < size s = simpler.fewer_nodes in
    let one : size (term_at ts id) ≡ size u = ap size (named_at ts id u answered) in
    let other : size (term_at old whole) ≡ size s = ap size (named_at old whole s named) in
    omega (arith, less, one, other)

pub answered_form : (P : PureTerm → Type 0) (old mid ts : List PureTerm) (whole id form : ℕ) (s u : PureTerm) → Names old whole s → Keeps old mid → Keeps mid ts
    → Names mid id u → Simplifies s u → IsForm P ts id form → IsForm P ts whole form
answered_form P old mid ts whole id form s u named first then answered simpler h =
    let same : h.term ≡ u = one_term ts id h.term u h.named (then id u answered) in
    record {
      term = s;
      form = h.form;
      named = then whole s (first whole s named);
      formed = h.formed;
      replaces = replaces-then s u h.form (replaces-simplified s u simpler) (subst (λ r. Replaces r h.form) same h.replaces);
      done = h.done;
    }

subterms-below : (t : PureTerm) → subterms t ≡ t ∷ below t
subterms-below (literal l) = refl
subterms-below (variable x) = refl
subterms-below (list_of ts) = refl
subterms-below (unary_of op t) = refl
subterms-below (binary_of op s t) = refl

pub normal_already : (P : PureTerm → Type 0) (ts : List PureTerm) (whole : ℕ) (t : PureTerm) → Names ts whole t → P t → All P (below (term_at ts whole)) → IsForm P ts whole whole
normal_already P ts whole t named here rest =
    let under : All P (below t) = subst (λ s. All P (below s)) (named_at ts whole t named) rest in
    record {
      term = t;
      form = t;
      named = named;
      formed = named;
      replaces = replaces-same t;
      done = subst (All P) (sym (subterms-below t)) (All-cons P t (below t) here under);
    }

-- ---- parts in their order

pub part_smaller : (old table : List Term) (ps : List ℕ) (i p : ℕ) → Keeps (terms_of old) (terms_of table) → All (λ q. q < length old) ps → i < length ps → p ≡ get_or ps i p
    → size (term_at (terms_of table) p) ≤ sizes (from_list (map (term_at (terms_of old)) ps))
part_smaller old table ps i p keeps named below is =
    let within : p < length old = subst (λ q. q < length old) (sym is) (All-get_or (λ q. q < length old) ps i p below named) in
    let there : slice_get (map (term_at (terms_of old)) ps) i ≡ Some (term_at (terms_of old) p) = slice_get-read (term_at (terms_of old)) ps i p below is in
    let least : size (term_at (terms_of old) p) ≤ sizes (from_list (map (term_at (terms_of old)) ps)) = size-element (map (term_at (terms_of old)) ps) i (term_at (terms_of old) p) there in
    let same : size (term_at (terms_of table) p) ≡ size (term_at (terms_of old) p) = ap size (at_kept old table p keeps within) in
    omega (arith, least, same)

pub part_below : (old table : List Term) (ps : List ℕ) (i p : ℕ) → Keeps (terms_of old) (terms_of table) → All (λ q. q < length old) ps → i < length ps → p ≡ get_or ps i p → p < length table
part_below old table ps i p keeps named below is =
    still_below old table p keeps (subst (λ q. q < length old) (sym is) (All-get_or (λ q. q < length old) ps i p below named))

-- the parts of a term, which numbers name
pub whole_smaller : (ts : List PureTerm) (i id : ℕ) (ps : List ℕ) → AllZip (NamesBelow ts i) ps (to_list (parts_of (term_at ts id)))
    → sizes (from_list (map (term_at ts) ps)) < size (term_at ts id)
whole_smaller ts i id ps parts =
    let same : map (term_at ts) ps ≡ to_list (parts_of (term_at ts id)) = terms_at ts ps (to_list (parts_of (term_at ts id))) (names-only ts i ps (to_list (parts_of (term_at ts id))) parts) in
    let sums : sizes (from_list (map (term_at ts) ps)) ≡ sizes (from_list (to_list (parts_of (term_at ts id)))) = ap (λ us. sizes (from_list us)) same in
    let less : sizes (from_list (to_list (parts_of (term_at ts id)))) < size (term_at ts id) = parts-smaller (term_at ts id) in
    omega (arith, sums, less)

-- the same numbers name the parts of the same term in a later table
pub parts_kept : (old table : List Term) (i id : ℕ) (ps : List ℕ) → Keeps (terms_of old) (terms_of table) → id < length old
    → AllZip (NamesBelow (terms_of old) i) ps (to_list (parts_of (term_at (terms_of old) id)))
    → AllZip (Names (terms_of table)) ps (to_list (parts_of (term_at (terms_of table) id)))
parts_kept old table i id ps keeps below parts =
    subst (λ t. AllZip (Names (terms_of table)) ps (to_list (parts_of t))) (sym (at_kept old table id keeps below))
    (all_keep (terms_of old) (terms_of table) ps (to_list (parts_of (term_at (terms_of old) id))) keeps
    (names-only (terms_of old) i ps (to_list (parts_of (term_at (terms_of old) id))) parts))

pub rebuilt_form : (P : PureTerm → Type 0) (mid : List Term) (ts : List PureTerm) (id whole : ℕ) (ps ms : List ℕ) → id < length mid → Keeps (terms_of mid) ts
    → AllZip (IsForm P (terms_of mid)) ps ms → AllZip (Names (terms_of mid)) ps (to_list (parts_of (term_at (terms_of mid) id)))
    → Names ts whole (with_parts (term_at (terms_of mid) id) (map (term_at (terms_of mid)) ms)) → IsFormBelow P ts id whole
rebuilt_form P mid ts id whole ps ms below keeps forms parts named =
    let replaced : AllZip Replaces (to_list (parts_of (term_at (terms_of mid) id))) (map (term_at (terms_of mid)) ms)
    = parts-replaced P (terms_of mid) ps ms (to_list (parts_of (term_at (terms_of mid) id))) forms parts in
    record {
      term = term_at (terms_of mid) id;
      form = with_parts (term_at (terms_of mid) id) (map (term_at (terms_of mid)) ms);
      named = keeps id (term_at (terms_of mid) id) (at_place mid id below);
      formed = named;
      replaces = replaced-parts (term_at (terms_of mid) id) (map (term_at (terms_of mid)) ms) replaced;
      done = done-parts P (term_at (terms_of mid) id) (map (term_at (terms_of mid)) ms) replaced (parts-done P (terms_of mid) ps ms forms);
    }

pub forms_below : (P : PureTerm → Type 0) (table : List Term) (ps ms : List ℕ) → AllZip (IsForm P (terms_of table)) ps ms → All (λ m. m < length table) ms
forms_below P table ps ms forms = all_below table ms (map (term_at (terms_of table)) ms) (forms-named P (terms_of table) ps ms forms)

pub if_ok : {A E : Type 0} (r : Result A E) (P Q : A → Type 0) → ((a : A) → P a → Q a) → IfOk r P → IfOk r Q
if_ok (Ok a) P Q f h = f a h
if_ok (Err e) P Q f h = tt
