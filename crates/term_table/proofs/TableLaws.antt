-- What tables keep where a node is found and where one is added.
use Rattle.std.proofs.Common.{◌≡◌, ◌⊎◌, inl, inr, ℕ, zero, suc, ◌<◌, ◌≤◌, ◌+◌, List, [], ◌∷◌, ◌++◌, map, take, length, slice_get, get_or, Bool, true, false, not, if◌then◌else◌, None, Some, refl, sym, ◌∙◌, ap, subst, arith, length-append}
use Rattle.std.proofs.lemmas.Bool.{and_parts, false≢true}
use Rattle.std.proofs.lemmas.List.{map-append}
use Rattle.std.proofs.lemmas.Map.Keys.{IsDistinct-head, IsDistinct-tail}
use Rattle.std.proofs.lemmas.Option.{slice_get_within, slice_get_cases, get_or_from_slice_get}
use Rattle.std.specs.List.{AllZip, IsDistinct, AllByRecursion, list_any}
use Rattle.indexmap.specs.IndexSet.{insert_key}
use Rattle.gil_values.specs.declared.operators.BinOp.{BinOp}
use Rattle.gil_values.specs.declared.operators.UnOp.{UnOp}
use Rattle.pure_terms.proofs.Evaluated.{take-push}
use Rattle.pure_terms.proofs.VariableLaws.{slice_get-append}
use Rattle.pure_terms.specs.Equality.{same_term, same_terms}
use Rattle.pure_terms.specs.EqualityLaws.{same_literal-same, same_variable-same, same_term-same, same_term-refl}
use Rattle.pure_terms.specs.Pure.{PureTerm, literal, variable, list_of, unary_of, binary_of, from_list, to_list, to_list-from_list, PureTerms, no_terms, term_and, size, sizes}
use Rattle.term_table.proofs.CallerLemmas.{all_keep}
use Rattle.term_table.specs.declared.nodes.Node.{Node}
use Rattle.term_table.specs.declared.nodes.Root.{Root}
use Rattle.term_table.specs.Nodes.{no_part, root_code, root_from, part_code, node_code, same_node, same_parts-same}
use Rattle.term_table.specs.Tables.{IsBuilt, Names, NamesBelow, IsNodeAt, IsTable, Keeps, HasNoRepeats, parts_of}

no_some : {A : Type 0} (x : A) → None ≡ Some x → ⊥
no_some x e = cc

same_some : {A : Type 0} (x y : A) → Some x ≡ Some y → x ≡ y
same_some x y e = cc

-- a number names one term
pub one_term : (ts : List PureTerm) (i : ℕ) (t u : PureTerm) → Names ts i t → Names ts i u → t ≡ u
one_term ts i t u p q = same_some t u (sym p ∙ q)

same_single : {A : Type 0} (x y : A) → x ∷ [] ≡ y ∷ [] → x ≡ y
same_single x y e = cc

same_pair : {A : Type 0} (x y v w : A) → x ∷ v ∷ [] ≡ y ∷ w ∷ [] → (x ≡ y) × (v ≡ w)
same_pair x y v w e = (cc, cc)

same_op1 : (op other : UnOp) → unary_of op no_part ≡ unary_of other no_part → Root.Op1 op ≡ Root.Op1 other
same_op1 op other e = cc

same_op2 : (op other : BinOp) → binary_of op no_part no_part ≡ binary_of other no_part no_part → Root.Op2 op ≡ Root.Op2 other
same_op2 op other e = cc

same_roots : (r s : Root) → same_term (root_code r) (root_code s) ≡ true → r ≡ s
same_roots (Root.Lit k) (Root.Lit l) h = ap Root.Lit (same_literal-same k l h)
same_roots (Root.Var x) (Root.Var y) h = ap Root.Var (same_variable-same x y h)
same_roots Root.List Root.List h = refl
same_roots (Root.Op1 op) (Root.Op1 other) h = same_op1 op other (same_term-same (root_code (Root.Op1 op)) (root_code (Root.Op1 other)) h)
same_roots (Root.Op2 op) (Root.Op2 other) h = same_op2 op other (same_term-same (root_code (Root.Op2 op)) (root_code (Root.Op2 other)) h)
same_roots r s h = absurd (false≢true h)

-- numbers that name terms name no others
pub same_named : (ts : List PureTerm) (i j : ℕ) (ps : List ℕ) (us ws : List PureTerm)
    → AllZip (NamesBelow ts i) ps us → AllZip (NamesBelow ts j) ps ws → us ≡ ws
same_named ts i j [] [] [] a b = refl
same_named ts i j (p ∷ ps) (u ∷ us) (w ∷ ws) a b =
    let first = one_term ts p u w a.0.1 b.0.1 in
    let rest = same_named ts i j ps us ws a.1 b.1 in
    λ k. first k ∷ rest k
same_named ts i j [] [] (w ∷ ws) a b = absurd b
same_named ts i j [] (u ∷ us) ws a b = absurd a
same_named ts i j (p ∷ ps) [] ws a b = absurd a
same_named ts i j (p ∷ ps) (u ∷ us) [] a b = absurd b

-- a root and parts build one term
pub one_built : (r : Root) (us : List PureTerm) (t u : PureTerm) → IsBuilt r us t → IsBuilt r us u → t ≡ u
one_built (Root.Lit l) us t u a b = a.1 ∙ sym b.1
one_built (Root.Var x) us t u a b = a.1 ∙ sym b.1
one_built Root.List us t u a b = a ∙ sym b
one_built (Root.Op1 op) us t u a b = a.2 ∙ (ap (unary_of op) (same_single a.0 b.0 (sym a.1 ∙ b.1)) ∙ sym b.2)
one_built (Root.Op2 op) us t u a b =
    let pair = same_pair a.0 b.0 a.1 b.1 (sym a.2 ∙ b.2) in
    a.3 ∙ ((λ i. binary_of op (pair.0 i) (pair.1 i)) ∙ sym b.3)

-- a node that is equal to the one at a place builds the term that the place names
pub found : (ts : List PureTerm) (i m : ℕ) (n k : Node) (us : List PureTerm) (t : PureTerm) → IsNodeAt ts i k → same_node n k ≡ true
    → IsBuilt n.root us t → AllZip (NamesBelow ts m) n.parts.items us → Names ts i t
found ts i m n k us t at same built named =
    let both = and_parts (same_term (root_code n.root) (root_code k.root)) (same_terms (from_list (map part_code n.parts.items)) (from_list (map part_code k.parts.items))) same in
    let roots = same_roots n.root k.root both.0 in
    let parts = same_parts-same n.parts.items k.parts.items both.1 in
    let lists = same_named ts m i k.parts.items us at.parts (subst (λ ps. AllZip (NamesBelow ts m) ps us) parts named) at.below in
    let whole = one_built k.root at.parts t at.term (subst (λ ws. IsBuilt k.root ws t) lists (subst (λ r. IsBuilt r us t) roots built)) at.built in
    subst (Names ts i) (sym whole) at.named

-- a longer list keeps what numbers name
pub pushed_keeps : (ts : List PureTerm) (t : PureTerm) → Keeps ts (ts ++ t ∷ [])
pushed_keeps ts t i u h = slice_get-append ts (t ∷ []) i (slice_get_within ts i u h) ∙ h

pub below_keeps : (ts us : List PureTerm) (i j : ℕ) → i ≤ j → Keeps ts us → (ps : List ℕ) (ws : List PureTerm)
    → AllZip (NamesBelow ts i) ps ws → AllZip (NamesBelow us j) ps ws
below_keeps ts us i j le keeps [] [] a = a
below_keeps ts us i j le keeps (p ∷ ps) (w ∷ ws) a = ((omega arith, keeps p w a.0.1), below_keeps ts us i j le keeps ps ws a.1)
below_keeps ts us i j le keeps [] (w ∷ ws) a = absurd a
below_keeps ts us i j le keeps (p ∷ ps) [] a = absurd a

-- numbers that name terms are below the length
pub names_below : (ts : List PureTerm) (ps : List ℕ) (us : List PureTerm) → AllZip (Names ts) ps us → AllZip (NamesBelow ts (length ts)) ps us
names_below ts [] [] a = a
names_below ts (p ∷ ps) (u ∷ us) a = ((slice_get_within ts p u a.0, a.0), names_below ts ps us a.1)
names_below ts [] (u ∷ us) a = absurd a
names_below ts (p ∷ ps) [] a = absurd a

node_keeps : (ts us : List PureTerm) (i : ℕ) (n : Node) → Keeps ts us → IsNodeAt ts i n → IsNodeAt us i n
node_keeps ts us i n keeps at = record {
  term = at.term;
  parts = at.parts;
  named = keeps i at.term at.named;
  built = at.built;
  below = below_keeps ts us i i (omega arith) keeps n.parts.items at.parts at.below;
}

-- what stands in a list with one item more at its end
pushed_at : {A : Type 0} (xs : List A) (y : A) (i : ℕ) (x : A) → slice_get (xs ++ y ∷ []) i ≡ Some x → (slice_get xs i ≡ Some x) ⊎ ((i ≡ length xs) × (y ≡ x))
pushed_at [] y zero x h = inr (refl, same_some y x h)
pushed_at [] y (suc i) x h = absurd (no_some x h)
pushed_at (a ∷ xs) y zero x h = inl h
pushed_at (a ∷ xs) y (suc i) x h = by (pushed_at xs y i x h)
  where
    by : (slice_get xs i ≡ Some x) ⊎ ((i ≡ length xs) × (y ≡ x)) → (slice_get (a ∷ xs) (suc i) ≡ Some x) ⊎ ((suc i ≡ length (a ∷ xs)) × (y ≡ x))
    by (inl e) = inl e
    by (inr e) = inr (ap suc e.0, e.1)

-- the last item of a list, by its length
pushed_last : {A : Type 0} (xs : List A) (y : A) → slice_get (xs ++ y ∷ []) (length xs) ≡ Some y
pushed_last [] y = refl
pushed_last (x ∷ xs) y = pushed_last xs y

-- a node whose parts are in the table may be added with its term
pub pushed : (nodes : List Node) (ts : List PureTerm) (n : Node) (us : List PureTerm) (t : PureTerm) → IsTable nodes ts → IsBuilt n.root us t
    → AllZip (NamesBelow ts (length ts)) n.parts.items us → IsDistinct same_node (nodes ++ n ∷ []) → IsTable (nodes ++ n ∷ []) (ts ++ t ∷ [])
pushed nodes ts n us t table built named apart = record {
  one_each = length-append nodes (n ∷ []) ∙ ap (λ l. l + 1) table.one_each ∙ sym (length-append ts (t ∷ []));
  each = λ i k h. by i k (pushed_at nodes n i k h);
  apart = apart;
}
  where
    last : IsNodeAt (ts ++ t ∷ []) (length ts) n
    last = record {
      term = t;
      parts = us;
      named = pushed_last ts t;
      built = built;
      below = below_keeps ts (ts ++ t ∷ []) (length ts) (length ts) (omega arith) (pushed_keeps ts t) n.parts.items us named;
    }

    by : (i : ℕ) (k : Node) → (slice_get nodes i ≡ Some k) ⊎ ((i ≡ length nodes) × (n ≡ k)) → IsNodeAt (ts ++ t ∷ []) i k
    by i k (inl e) = node_keeps ts (ts ++ t ∷ []) i k (pushed_keeps ts t) (table.each i k e)
    by i k (inr e) = subst (λ j. IsNodeAt (ts ++ t ∷ []) j k) (sym (e.0 ∙ table.one_each)) (subst (IsNodeAt (ts ++ t ∷ []) (length ts)) e.1 last)

was_there : (x : Bool) → false ≡ not x → x ≡ true
was_there true e = refl
was_there false e = absurd (false≢true e)

was_new : (x : Bool) → true ≡ not x → x ≡ false
was_new true e = absurd (false≢true (sym e))
was_new false e = refl

kept_keys : (ks : List Node) (n : Node) (b : Bool) → b ≡ not (list_any (same_node n) ks) → b ≡ false → insert_key same_node ks n ≡ ks
kept_keys ks n b e f = ap (λ c. if c then ks else ks ++ n ∷ []) (was_there (list_any (same_node n) ks) (sym f ∙ e))

new_keys : (ks : List Node) (n : Node) (b : Bool) → b ≡ not (list_any (same_node n) ks) → b ≡ true → insert_key same_node ks n ≡ ks ++ n ∷ []
new_keys ks n b e f = ap (λ c. if c then ks else ks ++ n ∷ []) (was_new (list_any (same_node n) ks) (sym f ∙ e))

-- adding a node, with the term that it builds
module _ (ks new : List Node) (ts : List PureTerm) (n : Node) (us : List PureTerm) (t : PureTerm) (b : Bool) (table : IsTable ks ts)
    (built : IsBuilt n.root us t) (named : AllZip (NamesBelow ts (length ts)) n.parts.items us)
    (keys : new ≡ insert_key same_node ks n) (added : b ≡ not (list_any (same_node n) ks)) where
  pub found_named : (id i : ℕ) (k : Node) → id ≡ i → b ≡ false → slice_get new i ≡ Some k → same_node n k ≡ true → Names ts id t
  found_named id i k here old at same =
      subst (λ j. Names ts j t) (sym here) (found ts i (length ts) n k us t (table.each i k (sym (ap (λ l. slice_get l i) (keys ∙ kept_keys ks n b added old)) ∙ at)) same built named)

  pub pushed_table : (tt' : List PureTerm) → b ≡ true → IsDistinct same_node new → tt' ≡ ts ++ t ∷ [] → IsTable new tt'
  pushed_table tt' fresh apart terms =
      let whole = keys ∙ new_keys ks n b added fresh in
      subst (IsTable new) (sym terms) (subst (λ l. IsTable l (ts ++ t ∷ [])) (sym whole)
      (pushed ks ts n us t table built named (subst (IsDistinct same_node) whole apart)))

  pub pushed_named : (tt' : List PureTerm) (id i : ℕ) (k : Node) → id ≡ i → IsTable new tt' → tt' ≡ ts ++ t ∷ [] → slice_get new i ≡ Some k → same_node n k ≡ true → Names tt' id t
  pushed_named tt' id i k here whole terms at same =
      subst (λ j. Names tt' j t) (sym here) (found tt' i (length ts) n k us t (whole.each i k at) same built
      (below_keeps ts tt' (length ts) (length ts) (omega arith) (subst (Keeps ts) (sym terms) (pushed_keeps ts t)) n.parts.items us named))

  pub taken_back : (back : List Node) (tt' : List PureTerm) → b ≡ true → ((kept : List Node) (last : Node) → new ≡ kept ++ last ∷ [] → back ≡ kept)
      → tt' ≡ ts → IsTable back tt'
  taken_back back tt' fresh last terms =
      subst (IsTable back) (sym terms) (subst (λ l. IsTable l ts) (sym (last ks n (keys ∙ new_keys ks n b added fresh))) table)

all_at : {A : Type 0} (P : A → Type 0) (xs : List A) (i : ℕ) (x : A) → AllByRecursion P xs → slice_get xs i ≡ Some x → P x
all_at P [] i x a h = absurd (no_some x h)
all_at P (y ∷ ys) zero x a h = subst P (same_some y x h) a.0
all_at P (y ∷ ys) (suc i) x a h = all_at P ys i x a.1 h

-- equal items of a list without equal items stand at one place
one_place : {A : Type 0} (e : A → A → Bool) (xs : List A) (i j : ℕ) (x y : A) → IsDistinct e xs → slice_get xs i ≡ Some x → slice_get xs j ≡ Some y
    → e x y ≡ true → e y x ≡ true → i ≡ j
one_place e [] i j x y d h k p q = absurd (no_some x h)
one_place e (a ∷ xs) zero zero x y d h k p q = refl
one_place e (a ∷ xs) zero (suc j) x y d h k p q =
    absurd (false≢true (sym (all_at (λ z. e a z ≡ false) xs j y (IsDistinct-head e a xs d) k) ∙ (ap (λ z. e z y) (same_some a x h) ∙ p)))
one_place e (a ∷ xs) (suc i) zero x y d h k p q =
    absurd (false≢true (sym (all_at (λ z. e a z ≡ false) xs i x (IsDistinct-head e a xs d) h) ∙ (ap (λ z. e z x) (same_some a y k) ∙ q)))
one_place e (a ∷ xs) (suc i) (suc j) x y d h k p q = ap suc (one_place e xs i j x y (IsDistinct-tail e a xs d) h k p q)

abbrev pub parts_list : PureTerm → List PureTerm
parts_list t = to_list (parts_of t)

pub built_from : (r : Root) (us : List PureTerm) (t : PureTerm) → IsBuilt r us t → (r ≡ root_from t) × (us ≡ parts_list t)
built_from (Root.Lit l) us t b = (ap root_from (sym b.1), b.0 ∙ ap parts_list (sym b.1))
built_from (Root.Var x) us t b = (ap root_from (sym b.1), b.0 ∙ ap parts_list (sym b.1))
built_from Root.List us t b = (ap root_from (sym b), sym (to_list-from_list us) ∙ ap parts_list (sym b))
built_from (Root.Op1 op) us t b = (ap root_from (sym b.2), b.1 ∙ ap parts_list (sym b.2))
built_from (Root.Op2 op) us t b = (ap root_from (sym b.3), b.2 ∙ ap parts_list (sym b.3))

same_codes : (n m : Node) → n.root ≡ m.root → n.parts.items ≡ m.parts.items → same_node n m ≡ true
same_codes n m roots parts =
    let codes : node_code n ≡ node_code m = (λ i. list_of (term_and (root_code (roots i)) (from_list (map part_code (parts i))))) in
    ap (same_term (node_code n)) (sym codes) ∙ same_term-refl (node_code n)

-- one number for each term
module _ (nodes : List Node) (ts : List PureTerm) (table : IsTable nodes ts) where
  node_of : (i : ℕ) (t : PureTerm) → Names ts i t → (n : Node) × (slice_get nodes i ≡ Some n)
  node_of i t h = by (slice_get_cases nodes i).1
    where
      by : ((n : Node) × (i < length nodes) × (slice_get nodes i ≡ Some n) × (get_or nodes i n ≡ n)) ⊎ ((length nodes ≤ i) × (slice_get nodes i ≡ None))
          → (n : Node) × (slice_get nodes i ≡ Some n)
      by (inl e) = (e.0, e.2)
      by (inr e) = let within = slice_get_within ts i t h in let long = table.one_each in absurd (omega arith)

  abbrev OneNumber : PureTerm → Type 0
  OneNumber t = (i j : ℕ) → Names ts i t → Names ts j t → i ≡ j

  same_numbers : (us : List PureTerm) (i j : ℕ) (ps qs : List ℕ) → AllByRecursion OneNumber us → AllZip (NamesBelow ts i) ps us → AllZip (NamesBelow ts j) qs us → ps ≡ qs
  same_numbers [] i j [] [] one a b = refl
  same_numbers [] i j [] (q ∷ qs) one a b = absurd b
  same_numbers [] i j (p ∷ ps) qs one a b = absurd a
  same_numbers (u ∷ us) i j [] qs one a b = absurd a
  same_numbers (u ∷ us) i j (p ∷ ps) [] one a b = absurd b
  same_numbers (u ∷ us) i j (p ∷ ps) (q ∷ qs) one a b =
      let first = one.0 p q a.0.1 b.0.1 in
      let rest = same_numbers us i j ps qs one.1 a.1 b.1 in
      λ k. first k ∷ rest k

  at_root : (t : PureTerm) → AllByRecursion OneNumber (parts_list t) → OneNumber t
  at_root t one i j h k =
      let n = node_of i t h in
      let m = node_of j t k in
      let a = table.each i n.0 n.1 in
      let b = table.each j m.0 m.1 in
      let left = built_from n.0.root a.parts t (subst (IsBuilt n.0.root a.parts) (one_term ts i a.term t a.named h) a.built) in
      let right = built_from m.0.root b.parts t (subst (IsBuilt m.0.root b.parts) (one_term ts j b.term t b.named k) b.built) in
      let parts = same_numbers (parts_list t) i j n.0.parts.items m.0.parts.items one
      (subst (AllZip (NamesBelow ts i) n.0.parts.items) left.1 a.below) (subst (AllZip (NamesBelow ts j) m.0.parts.items) right.1 b.below) in
      let roots = left.0 ∙ sym right.0 in
      one_place same_node nodes i j n.0 m.0 table.apart n.1 m.1 (same_codes n.0 m.0 roots parts) (same_codes m.0 n.0 (sym roots) (sym parts))

  mutual
    one_number : (t : PureTerm) → OneNumber t
    one_number (literal l) = at_root (literal l) tt
    one_number (variable x) = at_root (variable x) tt
    one_number (list_of us) = at_root (list_of us) (one_numbers us)
    one_number (unary_of op t) = at_root (unary_of op t) (one_number t, tt)
    one_number (binary_of op s t) = at_root (binary_of op s t) (one_number s, (one_number t, tt))

    one_numbers : (us : PureTerms) → AllByRecursion OneNumber (to_list us)
    one_numbers no_terms = tt
    one_numbers (term_and t us) = (one_number t, one_numbers us)

  pub no_repeats : HasNoRepeats ts
  no_repeats i j s t h k = (
    λ e. one_term ts i s t h (subst (λ n. Names ts n t) (sym e) k),
    λ e. one_number t i j (subst (Names ts i) e h) k,
  )

  -- the numbers of the parts
  pub parts_named : (i : ℕ) (n : Node) (d : PureTerm) → slice_get nodes i ≡ Some n → AllZip (NamesBelow ts i) n.parts.items (to_list (parts_of (get_or ts i d)))
  parts_named i n d h =
      let at = table.each i n h in
      let term = get_or_from_slice_get ts i at.term d at.named in
      subst (AllZip (NamesBelow ts i) n.parts.items) ((built_from n.root at.parts at.term at.built).1 ∙ ap parts_list (sym term)) at.below

pub node_at : (nodes : List Node) (ts : List PureTerm) (i : ℕ) (n : Node) (ps : List ℕ) → IsTable nodes ts → Some n ≡ slice_get nodes i → ps ≡ n.parts.items
    → AllZip (NamesBelow ts i) ps (to_list (parts_of (get_or ts i no_part)))
node_at nodes ts i n ps table at parts =
    subst (λ qs. AllZip (NamesBelow ts i) qs (to_list (parts_of (get_or ts i no_part)))) (sym parts) (parts_named nodes ts table i n no_part (sym at))

pub one_part : (ts : List PureTerm) (ps : List ℕ) (p : ℕ) (t u : PureTerm) → ps ≡ p ∷ [] → Names ts p u → u ≡ t
    → AllZip (NamesBelow ts (length ts)) ps (t ∷ [])
one_part ts ps p t u e named same =
    let here = subst (Names ts p) same named in
    subst (λ qs. AllZip (NamesBelow ts (length ts)) qs (t ∷ [])) (sym e) ((slice_get_within ts p t here, here), tt)

pub two_parts : (old ts : List PureTerm) (ps : List ℕ) (p q : ℕ) (s t u w : PureTerm) → ps ≡ p ∷ q ∷ [] → Names old p u → Keeps old ts → u ≡ s
    → Names ts q w → w ≡ t → AllZip (NamesBelow ts (length ts)) ps (s ∷ t ∷ [])
two_parts old ts ps p q s t u w e first keeps same second alike =
    let one = subst (Names ts p) same (keeps p u first) in
    let two = subst (Names ts q) alike second in
    subst (λ qs. AllZip (NamesBelow ts (length ts)) qs (s ∷ t ∷ [])) (sym e)
    ((slice_get_within ts p s one, one), ((slice_get_within ts q t two, two), tt))

pub names_push : (ts : List PureTerm) (ps : List ℕ) (us : List PureTerm) (p : ℕ) (u : PureTerm) → AllZip (Names ts) ps us → Names ts p u
    → AllZip (Names ts) (ps ++ p ∷ []) (us ++ u ∷ [])
names_push ts [] [] p u a h = (h, tt)
names_push ts (q ∷ ps) (w ∷ us) p u a h = (a.0, names_push ts ps us p u a.1 h)
names_push ts [] (w ∷ us) p u a h = absurd a
names_push ts (q ∷ ps) [] p u a h = absurd a

pub size-element : (us : List PureTerm) (i : ℕ) (u : PureTerm) → slice_get us i ≡ Some u → size u ≤ sizes (from_list us)
size-element [] i u h = absurd (no_some u h)
size-element (t ∷ ts) zero u h = subst (λ w. size w ≤ size t + sizes (from_list ts)) (same_some t u h) (omega arith)
size-element (t ∷ ts) (suc i) u h = let rest = size-element ts i u h in omega (arith, rest)

-- one more number and its term, which stands next in a list
pub names_next : {A : Type 0} (f : A → PureTerm) (xs : List A) (i : ℕ) (x : A) (old ts : List PureTerm) (ps qs : List ℕ) (p : ℕ) → slice_get xs i ≡ Some x
    → Keeps old ts → AllZip (Names old) ps (map f (take i xs)) → Names ts p (f x) → qs ≡ ps ++ p ∷ [] → AllZip (Names ts) qs (map f (take (i + 1) xs))
names_next f xs i x old ts ps qs p at keeps all named e =
    let step : i + 1 ≡ suc i = omega arith in
    let next : map f (take (i + 1) xs) ≡ map f (take i xs) ++ f x ∷ []
    = ap (λ n. map f (take n xs)) step ∙ (ap (map f) (take-push xs i x at) ∙ map-append f (take i xs) (x ∷ [])) in
    subst (λ us. AllZip (Names ts) qs us) (sym next) (subst (λ ns. AllZip (Names ts) ns (map f (take i xs) ++ f x ∷ [])) (sym e)
    (names_push ts ps (map f (take i xs)) p (f x) (all_keep old ts ps (map f (take i xs)) keeps all) named))
