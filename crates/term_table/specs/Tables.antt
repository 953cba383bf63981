-- Tables: nodes in the order in which they were added, and the term of each.
use Rattle.std.specs.Prelude.{◌≡◌, ◌↔◌, ℕ, ◌<◌, List, [], ◌∷◌, length, map, get_or, slice_get, Some}
use Rattle.std.specs.List.{AllZip, IsDistinct}
use Rattle.pure_terms.specs.declared.terms.Term.{Term}
use Rattle.pure_terms.specs.View.{term_view}
use Rattle.pure_terms.specs.Pure.{PureTerm, literal, variable, list_of, unary_of, binary_of, from_list, PureTerms, no_terms, term_and}
use Rattle.term_table.specs.declared.nodes.Node.{Node}
use Rattle.term_table.specs.declared.nodes.Root.{Root}
use Rattle.term_table.specs.Nodes.{no_part, same_node}

-- the term has this root and these parts
abbrev pub IsBuilt : Root → List PureTerm → PureTerm → Type 0
IsBuilt (Root.Lit l) us t = (us ≡ []) × (t ≡ literal l)
IsBuilt (Root.Var x) us t = (us ≡ []) × (t ≡ variable x)
IsBuilt Root.List us t = t ≡ list_of (from_list us)
IsBuilt (Root.Op1 op) us t = (s : PureTerm) × (us ≡ s ∷ []) × (t ≡ unary_of op s)
IsBuilt (Root.Op2 op) us t = (s : PureTerm) × (u : PureTerm) × (us ≡ s ∷ u ∷ []) × (t ≡ binary_of op s u)

-- the number names the term
abbrev pub Names : List PureTerm → ℕ → PureTerm → Type 0
Names ts i t = slice_get ts i ≡ Some t

-- the number is below i and names the term
abbrev pub NamesBelow : List PureTerm → ℕ → ℕ → PureTerm → Type 0
NamesBelow ts i p t = (p < i) × Names ts p t

-- what the node at a place stands for
pub record IsNodeAt (ts : List PureTerm) (i : ℕ) (n : Node) : Type 0 where
  pub term : PureTerm
  pub parts : List PureTerm
  pub named : Names ts i term
  pub built : IsBuilt n.root parts term
  pub below : AllZip (NamesBelow ts i) n.parts.items parts

-- the nodes stand for these terms
pub record IsTable (nodes : List Node) (ts : List PureTerm) : Type 0 where
  pub one_each : length nodes ≡ length ts
  pub each : (i : ℕ) (n : Node) → slice_get nodes i ≡ Some n → IsNodeAt ts i n
  pub apart : IsDistinct same_node nodes

-- each number of the old list names in the new one what it named
abbrev pub Keeps : List PureTerm → List PureTerm → Type 0
Keeps old new = (i : ℕ) (t : PureTerm) → Names old i t → Names new i t

-- two numbers are equal exactly where their terms are
abbrev pub HasNoRepeats : List PureTerm → Type 0
HasNoRepeats ts = (i j : ℕ) (s t : PureTerm) → Names ts i s → Names ts j t → (i ≡ j) ↔ (s ≡ t)

-- the direct subterms
abbrev pub parts_of : PureTerm → PureTerms
parts_of (literal l) = no_terms
parts_of (variable x) = no_terms
parts_of (list_of ts) = ts
parts_of (unary_of op t) = term_and t no_terms
parts_of (binary_of op s t) = term_and s (term_and t no_terms)

-- the term at a place
abbrev pub term_at : List PureTerm → ℕ → PureTerm
term_at ts i = get_or ts i no_part

-- the term with the same root and these parts, where it has as many
abbrev pub with_parts : PureTerm → List PureTerm → PureTerm
with_parts (literal l) us = literal l
with_parts (variable x) us = variable x
with_parts (list_of ts) us = list_of (from_list us)
with_parts (unary_of op t) (u ∷ []) = unary_of op u
with_parts (binary_of op s t) (u ∷ w ∷ []) = binary_of op u w
with_parts t us = t

-- the terms of a table as pure data
abbrev pub terms_of : List Term → List PureTerm
terms_of ts = map term_view ts
