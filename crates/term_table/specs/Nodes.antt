-- Nodes: what stands at the root of a term, and the numbers of its parts.
use Rattle.std.specs.Prelude.{◌≡◌, ℕ, List, [], ◌∷◌, ◌++◌, map, Bool, true, refl}
use Rattle.std.specs.Hash as fed
use Rattle.std.proofs.Common.{ap}
use Rattle.std.proofs.lemmas.Bool.{and_parts, false≢true}
use Rattle.pure_terms.specs.declared.literals.Literal.{Literal}
use Rattle.pure_terms.specs.declared.variables.Sort.{Sort}
use Rattle.pure_terms.specs.Equality.{same_term, same_terms}
use Rattle.pure_terms.specs.EqualityLaws.{same_literal-same, same_variable-same}
use Rattle.pure_terms.specs.Pure.{PureTerm, literal, variable, list_of, unary_of, binary_of, no_terms, term_and, from_list}
use Rattle.term_table.specs.declared.nodes.Node.{Node}
use Rattle.term_table.specs.declared.nodes.Root.{Root}

-- some term
abbrev pub no_part : PureTerm
no_part = literal (Literal.Bool true)

-- a root and a node as terms, different ones as different terms
abbrev pub root_code : Root → PureTerm
root_code (Root.Lit l) = literal l
root_code (Root.Var x) = variable x
root_code Root.List = list_of no_terms
root_code (Root.Op1 op) = unary_of op no_part
root_code (Root.Op2 op) = binary_of op no_part no_part

-- the root of a term
abbrev pub root_from : PureTerm → Root
root_from (literal l) = Root.Lit l
root_from (variable x) = Root.Var x
root_from (list_of ts) = Root.List
root_from (unary_of op t) = Root.Op1 op
root_from (binary_of op s t) = Root.Op2 op

abbrev pub part_code : ℕ → PureTerm
part_code i = variable (record { number = i; sort = Sort.Int })

abbrev pub node_code : Node → PureTerm
node_code n = list_of (term_and (root_code n.root) (from_list (map part_code n.parts.items)))

-- equality of nodes
abbrev pub same_node : Node → Node → Bool
same_node m n = same_term (node_code m) (node_code n)

-- what a node gives to a hasher
abbrev pub literal_input : Literal → fed.HashWrites
literal_input (Literal.Int n) = fed.i128 n
literal_input (Literal.Bool b) = fed.bool b
literal_input (Literal.Str cs) = fed.str cs
literal_input (Literal.Kind k) = fed.u8 4
literal_input (Literal.Proc name) = fed.str name

abbrev pub root_input : Root → fed.HashWrites
root_input (Root.Lit l) = literal_input l
root_input (Root.Var x) = fed.u64 x.number
root_input Root.List = fed.u8 1
root_input (Root.Op1 op) = fed.u8 2
root_input (Root.Op2 op) = fed.u8 3

abbrev pub node_input : Node → fed.HashWrites
node_input n = root_input n.root ++ fed.slice fed.usize n.parts.items

same_roots-input : (r s : Root) → same_term (root_code r) (root_code s) ≡ true → root_input r ≡ root_input s
same_roots-input (Root.Lit k) (Root.Lit l) h = ap literal_input (same_literal-same k l h)
same_roots-input (Root.Var x) (Root.Var y) h = ap (λ v. fed.u64 v.number) (same_variable-same x y h)
same_roots-input Root.List Root.List h = refl
same_roots-input (Root.Op1 op) (Root.Op1 other) h = refl
same_roots-input (Root.Op2 op) (Root.Op2 other) h = refl
same_roots-input r s h = absurd (false≢true h)

pub same_parts-same : (ps qs : List ℕ) → same_terms (from_list (map part_code ps)) (from_list (map part_code qs)) ≡ true → ps ≡ qs
same_parts-same [] [] h = refl
same_parts-same (p ∷ ps) (q ∷ qs) h =
    let parts = and_parts (same_term (part_code p) (part_code q)) (same_terms (from_list (map part_code ps)) (from_list (map part_code qs))) h in
    let first = ap (λ v. v.number) (same_variable-same (record { number = p; sort = Sort.Int }) (record { number = q; sort = Sort.Int }) parts.0) in
    let rest = same_parts-same ps qs parts.1 in
    λ i. first i ∷ rest i
same_parts-same ps qs h = absurd (false≢true h)

pub same_nodes-input : fed.Alike same_node node_input
same_nodes-input = record {
  fed = λ m n h.
      let both = and_parts (same_term (root_code m.root) (root_code n.root)) (same_terms (from_list (map part_code m.parts.items)) (from_list (map part_code n.parts.items))) h in
      let roots = same_roots-input m.root n.root both.0 in
      let parts = same_parts-same m.parts.items n.parts.items both.1 in
      λ i. roots i ++ fed.slice fed.usize (parts i);
}
