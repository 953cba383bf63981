-- Nodes that are added, and classes that become one.
use Rattle.std.proofs.Common.{◌≡◌, ⊎_elim, ◌⊎◌, inl, inr, ℕ, zero, suc, ◌+◌, ◌-◌, ◌≤◌, List, [], ◌∷◌, ◌++◌, length, Bool, true, false, if◌then◌else◌, Option, Some, None, slice_get, eqb, refl, sym, ap, ◌∙◌, subst, arith}
use Rattle.std.proofs.lemmas.Bool.{eq-eqb, ne_eqb}
use Rattle.std.proofs.lemmas.Option.{same_Some}
use Rattle.pure_terms.specs.Equality.{same_term}
use Rattle.pure_terms.specs.EqualityLaws.{same_term-refl}
use Rattle.pure_terms.specs.Pure.{PureTerm, PureAtom}
use Rattle.solver_proof.specs.Chains.{Sides, equality_at, AreEqualAt, Leads}
use Rattle.solver_proof.proofs.Growing.{found_left, found_right, past_end}
use Rattle.equality_core.specs.Nodes.{PureNode, IsNode, AreNodes, root_of, IsUnited, IsFound, alone, AddsAtMost, ArePaired, IsMoved, AreMoved, IsMovedInto, AreJoined, IsUnitedBy}
use Rattle.equality_core.proofs.Leading.{leads_append, turned_step, leads_back}

-- ---- one more node

root-append : (nodes more : List PureNode) (t : PureTerm) (r : ℕ) → root_of nodes t ≡ Some r → root_of (nodes ++ more) t ≡ Some r
root-append [] more t r is = cc
root-append (n ∷ ns) more t r is = by_test (same_term n.term t) is (root-append ns more t r) where
  by_test : (b : Bool) → (if b then Some n.root else root_of ns t) ≡ Some r → (root_of ns t ≡ Some r → root_of (ns ++ more) t ≡ Some r) → (if b then Some n.root else root_of (ns ++ more) t) ≡ Some r
  by_test true is again = is
  by_test false is again = again is

-- a node without one before it is the first of its term
pub root-last : (nodes : List PureNode) (node : PureNode) (t : PureTerm) → node.term ≡ t → root_of nodes t ≡ None → root_of (nodes ++ node ∷ []) t ≡ Some node.root
root-last [] node t same none = ap (λ (b : Bool). if b then Some node.root else None) (ap (λ u. same_term u t) same ∙ same_term-refl t)
root-last (n ∷ ns) node t same none = by_test (same_term n.term t) none (root-last ns node t same) where
  by_test : (b : Bool) → (if b then Some n.root else root_of ns t) ≡ None → (root_of ns t ≡ None → root_of (ns ++ node ∷ []) t ≡ Some node.root) → (if b then Some n.root else root_of (ns ++ node ∷ []) t) ≡ Some node.root
  by_test true none again = cc
  by_test false none again = again none

pub last_found : (nodes : List PureNode) (t : PureTerm) → root_of nodes t ≡ None → IsFound (nodes ++ alone (length nodes) t ∷ []) t (length nodes)
last_found nodes t none =
    record {
      node = alone (length nodes) t;
      at = found_right nodes (alone (length nodes) t ∷ []) (length nodes) 0 (plus_zero (length nodes));
      term = refl;
      root = root-last nodes (alone (length nodes) t) t refl none;
    } where
      plus_zero : (n : ℕ) → n ≡ n + 0
      plus_zero n = omega arith

node_longer : (list : List PureAtom) (nodes more : List PureNode) (node : PureNode) → IsNode list nodes node → IsNode list (nodes ++ more) node
node_longer list nodes more node is = record { first = is.first; there = found_left nodes more node.root is.first is.there; own = is.own; leads = is.leads }

nodes_longer : (list : List PureAtom) (nodes : List PureNode) (t : PureTerm) → AreNodes list nodes → AreNodes list (nodes ++ alone (length nodes) t ∷ [])
nodes_longer list nodes t are i node at = by_cases (slice_get nodes i) refl where
  plus_zero : (n : ℕ) → n ≡ n + 0
  plus_zero n = omega arith

  new : PureNode
  new = alone (length nodes) t

  fresh : IsNode list (nodes ++ alone (length nodes) t ∷ []) (alone (length nodes) t)
  fresh = record { first = alone (length nodes) t; there = found_right nodes (alone (length nodes) t ∷ []) (length nodes) 0 (plus_zero (length nodes)); own = refl; leads = refl }

  within : (k : ℕ) (x : PureNode) → slice_get (alone (length nodes) t ∷ []) k ≡ Some x → alone (length nodes) t ≡ x
  within zero x is = same_Some (alone (length nodes) t) x is
  within (suc k) x is = cc

  past : length nodes ≤ i → i ≡ length nodes + (i - length nodes)
  past h = omega (arith, h)

  by_cases : (o : Option PureNode) → slice_get nodes i ≡ o → IsNode list (nodes ++ alone (length nodes) t ∷ []) node
  by_cases (Some old) there =
      let which : old ≡ node = same_Some old node (sym (found_left nodes (alone (length nodes) t ∷ []) i old there) ∙ at) in
      subst (IsNode list (nodes ++ alone (length nodes) t ∷ [])) which (node_longer list nodes (alone (length nodes) t ∷ []) old (are i old there))
  by_cases None there =
      let which : alone (length nodes) t ≡ node = within (i - length nodes) node (sym (found_right nodes (alone (length nodes) t ∷ []) i (i - length nodes) (past (past_end nodes i there))) ∙ at) in
      subst (IsNode list (nodes ++ alone (length nodes) t ∷ [])) which fresh

module _ (list : List PureAtom) (old : List PureNode) (t : PureTerm) (new : List PureNode) (adds : AddsAtMost old t new) where
  pub added_nodes : AreNodes list old → AreNodes list new
  added_nodes are = ⊎_elim (λ e. subst (AreNodes list) (sym e) are) (λ e. subst (AreNodes list) (sym e) (nodes_longer list old t are)) adds

  pub added_root : (s : PureTerm) (r : ℕ) → root_of old s ≡ Some r → root_of new s ≡ Some r
  added_root s r is = ⊎_elim (λ e. ap (λ ns. root_of ns s) e ∙ is) (λ e. ap (λ ns. root_of ns s) e ∙ root-append old (alone (length old) t ∷ []) s r is) adds

  pub added_united : (s u : PureTerm) → IsUnited old s u → IsUnited new s u
  added_united s u is = record { root = is.root; left = added_root s is.root is.left; right = added_root u is.root is.right }

-- ---- two classes that become one

abbrev renamed : ℕ → ℕ → ℕ → ℕ
renamed from into r = if eqb r from then into else r

renamed-other : (from into r : ℕ) → (r ≡ from → ⊥) → renamed from into r ≡ r
renamed-other from into r other = ap (λ (b : Bool). if b then into else r) (ne_eqb r from other)

renamed-same : (from into r : ℕ) → r ≡ from → renamed from into r ≡ into
renamed-same from into r same = ap (λ (b : Bool). if b then into else r) (eq-eqb r from same)

module _ (from into : ℕ) (back onward : List ℕ) where
  abbrev Moves : PureNode → PureNode → Type 0
  Moves = IsMoved from into back onward

  moved-term : (old new : PureNode) → Moves old new → new.term ≡ old.term
  moved-term old new (inl stays) = ap (λ n. n.term) stays.1
  moved-term old new (inr turns) = ap (λ n. n.term) turns.1.is

  moved-root : (old new : PureNode) → Moves old new → new.root ≡ renamed from into old.root
  moved-root old new (inl stays) = ap (λ n. n.root) stays.1 ∙ sym (renamed-other from into old.root stays.0)
  moved-root old new (inr turns) = ap (λ n. n.root) turns.1.is ∙ sym (renamed-same from into old.root turns.0)

  root-moved : (old new : List PureNode) (t : PureTerm) (r : ℕ) → ArePaired Moves old new → root_of old t ≡ Some r → root_of new t ≡ Some (renamed from into r)
  root-moved [] [] t r paired is = cc
  root-moved [] (m ∷ ms) t r paired is = absurd paired
  root-moved (n ∷ ns) [] t r paired is = absurd paired
  root-moved (n ∷ ns) (m ∷ ms) t r paired is =
      (λ i. if same_term (moved-term n m paired.0 i) t then Some (moved-root n m paired.0 i) else root_of ms t) ∙ by_test (same_term n.term t) is (root-moved ns ms t r paired.1) where
        by_test : (b : Bool) → (if b then Some n.root else root_of ns t) ≡ Some r → (root_of ns t ≡ Some r → root_of ms t ≡ Some (renamed from into r)) → (if b then Some (renamed from into n.root) else root_of ms t) ≡ Some (renamed from into r)
        by_test true is again = ap (λ k. Some (renamed from into k)) (same_Some n.root r is)
        by_test false is again = again is

  -- what was moved to a node, and what a node was moved to
  moved_from : (old new : List PureNode) (i : ℕ) (m : PureNode) → ArePaired Moves old new → slice_get new i ≡ Some m → (n : PureNode) × ((slice_get old i ≡ Some n) × Moves n m)
  moved_from [] [] i m paired at = cc
  moved_from [] (k ∷ ms) i m paired at = absurd paired
  moved_from (n ∷ ns) [] i m paired at = absurd paired
  moved_from (n ∷ ns) (k ∷ ms) zero m paired at = (n, (refl, subst (Moves n) (same_Some k m at) paired.0))
  moved_from (n ∷ ns) (k ∷ ms) (suc i) m paired at = moved_from ns ms i m paired.1 at

  moved_to : (old new : List PureNode) (i : ℕ) (n : PureNode) → ArePaired Moves old new → slice_get old i ≡ Some n → (m : PureNode) × ((slice_get new i ≡ Some m) × Moves n m)
  moved_to [] [] i n paired at = cc
  moved_to [] (m ∷ ms) i n paired at = absurd paired
  moved_to (k ∷ ns) [] i n paired at = absurd paired
  moved_to (k ∷ ns) (m ∷ ms) zero n paired at = (m, (refl, subst (λ x. Moves x m) (same_Some k n at) paired.0))
  moved_to (k ∷ ns) (m ∷ ms) (suc i) n paired at = moved_to ns ms i n paired.1 at

  -- a node of another class stands where it stood
  stays_there : (old new : List PureNode) (i : ℕ) (n : PureNode) → ArePaired Moves old new → slice_get old i ≡ Some n → (n.root ≡ from → ⊥) → slice_get new i ≡ Some n
  stays_there old new i n paired at other =
      let to = moved_to old new i n paired at in
      by_cases to.0 to.1.0 to.1.1 where
        by_cases : (m : PureNode) → slice_get new i ≡ Some m → Moves n m → slice_get new i ≡ Some n
        by_cases m there (inl stays) = there ∙ ap Some stays.1
        by_cases m there (inr turns) = absurd (other turns.0)

-- the nodes of one class lead on to the other's first term
module _ (list : List PureAtom) (old : List PureNode) (place : ℕ) (from into : PureNode) (new : List PureNode) (are : AreNodes list old) (left : IsNode list old from) (right : IsNode list old into) (step : AreEqualAt list place from.term into.term) (apart : from.root ≡ into.root → ⊥) (paired : AreMoved from into place old new) where
  abbrev onward : List ℕ
  onward = place ∷ into.chain

  there_still : (i : ℕ) (node : PureNode) → slice_get old i ≡ Some node → (node.root ≡ from.root → ⊥) → slice_get new i ≡ Some node
  there_still i node at other = stays_there from.root into.root from.chain onward old new i node paired at other

  moved_node : (node moved : PureNode) → IsNode list old node → IsMoved from.root into.root from.chain onward node moved → IsNode list new moved
  moved_node node moved is (inl stays) =
      subst (IsNode list new) (sym stays.1)
      (record { first = is.first; there = there_still node.root is.first is.there (λ e. stays.0 (sym is.own ∙ e)); own = is.own; leads = is.leads })
  moved_node node moved is (inr turns) =
      let which : is.first ≡ left.first = same_Some is.first left.first (sym (subst (λ k. slice_get old k ≡ Some is.first) turns.0 is.there) ∙ left.there) in
      let along : Leads list node.chain node.term left.first.term = subst (λ n. Leads list node.chain node.term n.term) which is.leads in
      let back : Leads list turns.1.way node.term from.term = leads_back list node.chain from.chain turns.1.way node.term from.term left.first.term turns.1.goes_back along left.leads in
      let on : Leads list (turns.1.way ++ onward) node.term right.first.term = leads_append list turns.1.way onward node.term from.term right.first.term back (into.term, (step, right.leads)) in
      subst (IsNode list new) (sym turns.1.is)
      (record { first = right.first; there = there_still into.root right.first right.there (λ e. apart (sym e ∙ right.own)); own = right.own; leads = on })

  all_moved : AreNodes list new
  all_moved i m at =
      let was = moved_from from.root into.root from.chain onward old new i m paired at in
      moved_node was.0 m (are i was.0 was.1.0) was.1.1

-- the root of a class that was moved into another, and that of the other
module _ (from into : PureNode) (place : ℕ) (old new : List PureNode) (apart : from.root ≡ into.root → ⊥) (paired : AreMoved from into place old new) where
  root-from : (t : PureTerm) → root_of old t ≡ Some from.root → root_of new t ≡ Some into.root
  root-from t is =
      root-moved from.root into.root from.chain (place ∷ into.chain) old new t from.root paired is ∙ ap Some (renamed-same from.root into.root from.root refl)

  root-into : (t : PureTerm) → root_of old t ≡ Some into.root → root_of new t ≡ Some into.root
  root-into t is =
      root-moved from.root into.root from.chain (place ∷ into.chain) old new t into.root paired is ∙ ap Some (renamed-other from.root into.root into.root (λ e. apart (sym e)))

  moved_united : (s t : PureTerm) → IsUnited old s t → IsUnited new s t
  moved_united s t is =
      record {
        root = renamed from.root into.root is.root;
        left = root-moved from.root into.root from.chain (place ∷ into.chain) old new s is.root paired is.left;
        right = root-moved from.root into.root from.chain (place ∷ into.chain) old new t is.root paired is.right;
      }

module _ (list : List PureAtom) (old : List PureNode) (left right place : ℕ) (new : List PureNode) (are : AreNodes list old) (joined : AreJoined old left right place new) where
  abbrev Either : Type 0
  Either = ((joined.first.root ≡ joined.second.root) × (new ≡ old)) ⊎ ((joined.first.root ≡ joined.second.root → ⊥) × (AreMoved joined.second joined.first place old new ⊎ AreMoved joined.first joined.second place old new))

  pub joined_nodes : AreEqualAt list place joined.first.term joined.second.term → AreNodes list new
  joined_nodes step = by_cases joined.either where
    first : IsNode list old joined.first
    first = are left joined.first joined.at_left

    second : IsNode list old joined.second
    second = are right joined.second joined.at_right

    by_cases : Either → AreNodes list new
    by_cases (inl same) = subst (AreNodes list) (sym same.1) are
    by_cases (inr apart) =
        ⊎_elim (λ paired. all_moved list old place joined.second joined.first new are second first (turned_step list place joined.first.term joined.second.term step) (λ e. apart.0 (sym e)) paired)
        (λ paired. all_moved list old place joined.first joined.second new are first second step apart.0 paired)
        apart.1

  -- roots that were one stay one
  pub joined_united : (s t : PureTerm) → IsUnited old s t → IsUnited new s t
  joined_united s t is = by_cases joined.either where
    by_cases : Either → IsUnited new s t
    by_cases (inl same) = subst (λ ns. IsUnited ns s t) (sym same.1) is
    by_cases (inr apart) =
        ⊎_elim (λ paired. moved_united joined.second joined.first place old new (λ e. apart.0 (sym e)) paired s t is)
        (λ paired. moved_united joined.first joined.second place old new apart.0 paired s t is)
        apart.1

  pub joined_sides : (s t : PureTerm) → IsFound old s left → IsFound old t right → IsUnited new s t
  joined_sides s t found_s found_t = by_cases joined.either where
    root_s : root_of old s ≡ Some joined.first.root
    root_s = found_s.root ∙ ap (λ n. Some n.root) (same_Some found_s.node joined.first (sym found_s.at ∙ joined.at_left))

    root_t : root_of old t ≡ Some joined.second.root
    root_t = found_t.root ∙ ap (λ n. Some n.root) (same_Some found_t.node joined.second (sym found_t.at ∙ joined.at_right))

    by_cases : Either → IsUnited new s t
    by_cases (inl same) = record { root = joined.first.root; left = ap (λ ns. root_of ns s) same.1 ∙ root_s; right = ap (λ ns. root_of ns t) same.1 ∙ root_t ∙ ap Some (sym same.0) }
    by_cases (inr apart) =
        ⊎_elim (λ paired. record { root = joined.first.root; left = root-into joined.second joined.first place old new (λ e. apart.0 (sym e)) paired s root_s; right = root-from joined.second joined.first place old new (λ e. apart.0 (sym e)) paired t root_t })
        (λ paired. record { root = joined.second.root; left = root-from joined.first joined.second place old new apart.0 paired s root_s; right = root-into joined.first joined.second place old new apart.0 paired t root_t })
        apart.1

-- one of the classes was moved into the other
module _ (old : List PureNode) (left right place : ℕ) (new : List PureNode) (first second : PureNode) (at_left : slice_get old left ≡ Some first) (at_right : slice_get old right ≡ Some second) (apart : first.root ≡ second.root → ⊥) where
  pub joined_left : IsMovedInto old left right place new → AreJoined old left right place new
  joined_left is =
      let one : is.first ≡ first = same_Some is.first first (sym is.at_from ∙ at_left) in
      let two : is.second ≡ second = same_Some is.second second (sym is.at_into ∙ at_right) in
      record {
        first = is.first;
        second = is.second;
        at_left = is.at_from;
        at_right = is.at_into;
        either = inr ((λ e. apart (ap (λ n. n.root) (sym one) ∙ e ∙ ap (λ n. n.root) two)), inr is.moved);
      }

  pub joined_right : IsMovedInto old right left place new → AreJoined old left right place new
  joined_right is =
      let one : is.first ≡ second = same_Some is.first second (sym is.at_from ∙ at_right) in
      let two : is.second ≡ first = same_Some is.second first (sym is.at_into ∙ at_left) in
      record {
        first = is.second;
        second = is.first;
        at_left = is.at_into;
        at_right = is.at_from;
        either = inr ((λ e. apart (ap (λ n. n.root) (sym two) ∙ e ∙ ap (λ n. n.root) one)), inl is.moved);
      }

-- ---- the sides of an equality

found_longer : (list : List PureAtom) (old : List PureNode) (t : PureTerm) (new : List PureNode) (s : PureTerm) (i : ℕ) → AddsAtMost old t new → IsFound old s i → IsFound new s i
found_longer list old t new s i adds found =
    record {
      node = found.node;
      at = ⊎_elim (λ e. subst (λ ns. slice_get ns i ≡ Some found.node) (sym e) found.at) (λ e. subst (λ ns. slice_get ns i ≡ Some found.node) (sym e) (found_left old (alone (length old) t ∷ []) i found.node found.at)) adds;
      term = found.term;
      root = added_root list old t new adds s found.node.root found.root;
    }

-- the nodes that were found are those that are joined
joined_term : (nodes : List PureNode) (t : PureTerm) (i : ℕ) (node : PureNode) → IsFound nodes t i → slice_get nodes i ≡ Some node → node.term ≡ t
joined_term nodes t i node found at = ap (λ n. n.term) (same_Some node found.node (sym at ∙ found.at)) ∙ found.term

same_sides : (sides : Sides) (s t : PureTerm) → s ≡ sides.left → t ≡ sides.right → sides ≡ record { left = s; right = t }
same_sides sides s t e f = λ i. record { left = sym e i; right = sym f i }

module _ (list : List PureAtom) (old : List PureNode) (sides : Sides) (place : ℕ) (new : List PureNode) (are : AreNodes list old) (is : IsUnitedBy old sides place new) where
  left_now : IsFound is.two sides.left is.left
  left_now = found_longer list is.one sides.right is.two sides.left is.left is.adds_right is.found_left

  both_nodes : AreNodes list is.two
  both_nodes = added_nodes list is.one sides.right is.two is.adds_right (added_nodes list old sides.left is.one is.adds_left are)

  pub united_nodes : equality_at list place ≡ Some sides → AreNodes list new
  united_nodes says = joined_nodes list is.two is.left is.right place new both_nodes is.joined
      (inl (says ∙ ap Some (same_sides sides is.joined.first.term is.joined.second.term (joined_term is.two sides.left is.left is.joined.first left_now is.joined.at_left) (joined_term is.two sides.right is.right is.joined.second is.found_right is.joined.at_right))))

  pub united_still : (s t : PureTerm) → IsUnited old s t → IsUnited new s t
  united_still s t before = joined_united list is.two is.left is.right place new both_nodes is.joined s t
      (added_united list is.one sides.right is.two is.adds_right s t (added_united list old sides.left is.one is.adds_left s t before))

  pub united_sides : IsUnited new sides.left sides.right
  united_sides = joined_sides list is.two is.left is.right place new both_nodes is.joined sides.left sides.right left_now is.found_right
