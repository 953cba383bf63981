-- Texts of which the parts were added one after another.
use Rattle.std.proofs.Common.{◌≡◌, ℕ, List, [], ◌∷◌, ◌++◌, map, refl, ap, append_assoc}
use Rattle.std.specs.Prelude.{codes}
use Rattle.std.specs.List.{join_by}
use Rattle.gil_values.proofs.Joined.{join_by-map}
use Rattle.solver_print.specs.Proofs.{in_brackets}
use Rattle.gil_report.specs.Lines.{line}
use Rattle.gil_report.specs.Proofs.{printed_proof, printed_proofs}
use Rattle.gil_report.specs.Pure.{PureNamedProof, from_list}

printed_all : (ps : List PureNamedProof) → printed_proofs (from_list ps) ≡ map printed_proof ps
printed_all [] = refl
printed_all (p ∷ ps) = ap (λ texts. printed_proof p ∷ texts) (printed_all ps)

-- a list of proofs between brackets
pub branches_added : (ps : List PureNamedProof) (start a b all : List ℕ) → a ≡ start ++ codes " [" → b ≡ a ++ join_by printed_proof (codes ", ") ps → all ≡ b ++ codes "]"
    → all ≡ start ++ in_brackets (printed_proofs (from_list ps))
branches_added ps start a b all f g h = rw (h, g, f, printed_all ps, join_by-map printed_proof (codes ", ") ps) (simp append_assoc)

-- a line of four parts
pub four_added : (p q r s start a b c d all : List ℕ) → a ≡ start ++ p → b ≡ a ++ q → c ≡ b ++ r → d ≡ c ++ s → all ≡ d ++ codes "\n"
    → all ≡ start ++ line (p ++ q ++ r ++ s)
four_added p q r s start a b c d all e f g h i = rw (i, h, g, f, e) (simp append_assoc)

-- the line of a specification
pub spec_added : (name params variables pre posts errors start a b c d e f g h i all : List ℕ)
    → a ≡ start ++ codes "spec " → b ≡ a ++ name → c ≡ b ++ codes "(" → d ≡ c ++ params → e ≡ d ++ codes ") " → f ≡ e ++ variables
    → g ≡ f ++ codes " " → h ≡ g ++ pre → i ≡ h ++ posts → all ≡ i ++ errors
    → all ≡ start ++ (codes "spec " ++ name ++ codes "(" ++ params ++ codes ") " ++ variables ++ codes " " ++ pre ++ (posts ++ errors))
spec_added name params variables pre posts errors start a b c d e f g h i all k l m n o p q r s t =
    rw (t, s, r, q, p, o, n, m, l, k) (simp append_assoc)
