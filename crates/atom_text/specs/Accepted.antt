-- Which texts are accepted, and as which variables and atoms.
use Rattle.std.specs.Prelude.{◌≡◌, ◌≤◌, ℕ, List, length}
use Rattle.pure_terms.specs.Pure.{PureAtom}
use Rattle.pure_terms.specs.View.{atoms_view}
use Rattle.pure_terms.specs.declared.variables.Sort.{Sort}
use Rattle.atom_text.specs.declared.resolving.AtomText.{AtomText}
use Rattle.atom_text.specs.Grammar.{Spell}
use Rattle.atom_text.specs.Meaning.{AreAtomsOf}
use Rattle.atom_text.specs.Naming.{IsDistinct}
use Rattle.atom_text.specs.Sources.{PureSource, names_of, sorts_of}

-- variables 0, 1, 2 and so on with their names and sorts, and atoms over them
pub record PureAtomText : Type 0 where
  pub names : List (List ℕ)
  pub vars : List Sort
  pub atoms : List PureAtom

abbrev pub text_view : AtomText → PureAtomText
text_view t = record { names = t.names; vars = t.vars; atoms = atoms_view t.atoms }

-- the most variables of a text
abbrev pub most_variables : ℕ
most_variables = 1000

-- The declarations are of these variables, each once and not too many, and the expressions say these atoms.
pub record Says (source : PureSource) (t : PureAtomText) : Type 0 where
  pub names : names_of source.declarations ≡ t.names
  pub vars : sorts_of source.declarations ≡ t.vars
  pub distinct : IsDistinct t.names
  pub few : length t.names ≤ most_variables
  pub atoms : AreAtomsOf t.names t.vars source.stated t.atoms

-- The bytes are a text of these variables and atoms.
abbrev pub SpellAtoms : List ℕ → PureAtomText → Type 0
SpellAtoms bytes t = (source : PureSource) × Spell bytes source × Says source t
