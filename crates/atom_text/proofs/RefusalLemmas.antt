-- Why a text is refused, and what it says where it isn't, from what its readers answer.
use Rattle.std.proofs.Common.{◌≡◌, ◌≤◌, ℕ, zero, suc, List, [], ◌∷◌, length, Option, Some, None, refl, sym, ap, ◌∙◌, subst, arith, slice_get}
use Rattle.std.proofs.lemmas.List.{length-map}
use Rattle.std.proofs.lemmas.Option.{slice_get_within}
use Rattle.gil_lexer.specs.Texts.{AreTokensOf}
use Rattle.gil_lexer.specs.declared.forms.Token.{Token}
use Rattle.gil_lexemes.specs.Lexemes.{StandForAll}
use Rattle.gil_lexemes.specs.declared.standing.Lexeme.{Lexeme}
use Rattle.gil_syntax.specs.declared.validity.InvalidKind.{InvalidKind}
use Rattle.gil_syntax.specs.declared.validity.InvalidKind.TheVariants as faults
use Rattle.gil_grammar.specs.Expressions.{SpellsExpr}
use Rattle.gil_grammar.specs.Lists.{SpellsEach}
use Rattle.gil_grammar.specs.Nesting.{IsNested}
use Rattle.gil_grammar.specs.declared.positions.Position.TheVariants.{Command}
use Rattle.gil_text.specs.Refusals.{HasNoTokens, place_of, IsTokenPlace, IsTooDeep}
use Rattle.gil_text.proofs.RefusalLemmas.{none_or_tokens}
use Rattle.gil_text.specs.declared.refused.RefusedKind.{RefusedKind}
use Rattle.gil_text.specs.declared.refused.RefusedKind.TheVariants as kinds
use Rattle.pure_terms.specs.Meaning.{AreOver}
use Rattle.pure_terms.specs.Pure.{PureAtom}
use Rattle.pure_terms.specs.declared.variables.Sort.{Sort}
use Rattle.pure_terms.specs.declared.variables.Var.{Var}
use Rattle.atom_text.specs.declared.naming.Unfit.{Unfit}
use Rattle.atom_text.specs.declared.naming.Unfit.TheVariants as unfit
use Rattle.atom_text.specs.declared.sources.Declaration.{Declaration}
use Rattle.atom_text.specs.Accepted.{PureAtomText, most_variables, Says, SpellAtoms}
use Rattle.atom_text.specs.Grammar.{SpellsStated, Spell}
use Rattle.atom_text.specs.Meaning.{AreAtomsOf}
use Rattle.atom_text.specs.Naming.{IsDistinct}
use Rattle.atom_text.specs.Reading.{source_at}
use Rattle.atom_text.specs.Refusals.{IsNamedWell, IsUnknownName, IsTooMany, IsAtFault, IsUnfit, IsRefusedFor}
use Rattle.atom_text.specs.Resolving.{FindsAll, atoms_of, IsFirstUnmade, IsUnmadeUnless}
use Rattle.atom_text.specs.Sources.{PureStated, PureSource, names_of, sorts_of}
use Rattle.atom_text.proofs.NamingLemmas.{found_distinct}
use Rattle.atom_text.proofs.ReadingLaws.{source_takes, source_again, spelled_as_read, one_reading}
use Rattle.atom_text.proofs.TermLaws.{made_atom, made_atoms, unmade_atom, atom_not_another, one_list, said_at, said_over}

-- ---- the kinds of texts that spell nothing

pub lexical_refusal : (bytes : List ℕ) (at : ℕ) (kind : RefusedKind) → HasNoTokens bytes at kind → IsRefusedFor bytes at kind
lexical_refusal bytes at kinds.Lex h = h
lexical_refusal bytes at kinds.Memory h = tt
lexical_refusal bytes at kinds.Nesting h = absurd h
lexical_refusal bytes at kinds.Syntax h = absurd h
lexical_refusal bytes at (kinds.Invalid kind) h = absurd h
lexical_refusal bytes at kinds.Limit h = absurd h
lexical_refusal bytes at kinds.Entry h = absurd h
lexical_refusal bytes at kinds.Modes h = absurd h

pub nesting_refusal : (bytes : List ℕ) (tokens : List Token) (ls : List Lexeme) (left at : ℕ) → AreTokensOf tokens bytes → StandForAll bytes tokens ls → IsTooDeep IsNested ls left
    → at ≡ place_of bytes tokens left → IsRefusedFor bytes at kinds.Nesting
nesting_refusal bytes tokens ls left at text stand deep place = (tokens, ls, record { text = text; stand = stand }, (left, deep, place))

pub syntax_refusal : (bytes : List ℕ) (tokens : List Token) (ls : List Lexeme) (at : ℕ) → AreTokensOf tokens bytes → StandForAll bytes tokens ls → IsNested ls
    → source_at tokens ls ≡ None → IsTokenPlace bytes tokens at → IsRefusedFor bytes at kinds.Syntax
syntax_refusal bytes tokens ls at text stand nested none place =
    (tokens, ls, record { text = text; stand = stand }, nested, (λ source spells. let some = source_again tokens ls source nested spells in cc (none, some)), place)

pub source_spells : (bytes : List ℕ) (tokens : List Token) (ls : List Lexeme) (source : PureSource) → AreTokensOf tokens bytes → StandForAll bytes tokens ls → IsNested ls
    → source_at tokens ls ≡ Some source → Spell bytes source
source_spells bytes tokens ls source text stand nested e =
    record { tokens = tokens; lexemes = ls; text = text; stand = stand; nested = nested; spelled = source_takes tokens ls source e }

-- ---- what a source says, or why it says nothing

one_length : (ds : List Declaration) → length (names_of ds) ≡ length (sorts_of ds)
one_length ds = length-map ds (λ (d : Declaration). d.name) ∙ sym (length-map ds (λ (d : Declaration). d.sort))

spelled_at : (tokens : List Token) (stated : List PureStated) (i : ℕ) (s : PureStated) (ls rest : List Lexeme) → SpellsEach (SpellsStated tokens) stated ls rest
    → slice_get stated i ≡ Some s → (from after : List Lexeme) × SpellsExpr Command s.expression from after
spelled_at tokens [] i s ls rest h here = absurd (cc here)
spelled_at tokens (r ∷ stated) zero s ls rest (after, one, more) here =
    let same : r ≡ s = cc in
    subst (λ (k : PureStated). (from after : List Lexeme) × SpellsExpr Command k.expression from after) same (ls, _, one.0)
spelled_at tokens (r ∷ stated) (suc i) s ls rest (after, one, more) here = spelled_at tokens stated i s after rest more here

module _ (source : PureSource) (find : List ℕ → Option Var) (finds : FindsAll source.declarations find) where
  pub unknown_name : (bytes : List ℕ) (at : ℕ) → Spell bytes source → IsFirstUnmade find source.stated at → IsUnknownName source at
  unknown_name bytes at spell f =
      let spelled = spell.spelled in
      let expression = spelled_at spell.tokens source.stated f.place f.one _ [] spelled.4 f.there in
      record {
        distinct = found_distinct source.declarations find finds;
        place = f.place;
        stated = f.one;
        unknown = record { there = f.there; other = unmade_atom source.declarations find finds f.one.expression expression.0 expression.1 expression.2 f.unmade };
        byte = f.byte;
        first = λ i s below u.
            let a = f.first i s below u.there in
            atom_not_another (names_of source.declarations) (sorts_of source.declarations) (one_length source.declarations) s.expression a.0
            (made_atom source.declarations find finds s.expression a.0 a.1) u.other;
      }

  pub named_well : (atoms : List PureAtom) → atoms_of find source.stated ≡ Some atoms → IsNamedWell source
  named_well atoms made = record {
    distinct = found_distinct source.declarations find finds;
    known = λ i s u.
        let a = said_at (names_of source.declarations) (sorts_of source.declarations) source.stated atoms i s (made_atoms source.declarations find finds source.stated atoms made) u.there in
        atom_not_another (names_of source.declarations) (sorts_of source.declarations) (one_length source.declarations) s.expression a.0 a.1 u.other;
  }

  pub source_says : (names : List (List ℕ)) (vars : List Sort) (atoms : List PureAtom) → names ≡ names_of source.declarations → vars ≡ sorts_of source.declarations
      → atoms_of find source.stated ≡ Some atoms → length source.declarations ≤ most_variables → Says source (record { names = names; vars = vars; atoms = atoms })
  source_says names vars atoms named sorted made few = record {
    names = sym named;
    vars = sym sorted;
    distinct = subst IsDistinct (sym named) (found_distinct source.declarations find finds);
    few = omega (arith, few, ap length named, length-map source.declarations (λ (d : Declaration). d.name));
    atoms = subst (λ xs. AreAtomsOf xs vars source.stated atoms) (sym named)
        (subst (λ xs. AreAtomsOf (names_of source.declarations) xs source.stated atoms) (sym sorted) (made_atoms source.declarations find finds source.stated atoms made));
  }

  pub unmade_unfit : (u : Unfit) → IsUnmadeUnless find source.stated u → (bytes : List ℕ) → Spell bytes source → IsUnfit source u
  unmade_unfit (unfit.UnknownName at) h bytes spell = unknown_name bytes at spell h
  unmade_unfit (unfit.Duplicate at) h bytes spell = absurd h
  unmade_unfit (unfit.TooMany at) h bytes spell = absurd h
  unmade_unfit unfit.Memory h bytes spell = tt

  pub too_many : (atoms : List PureAtom) (d : Declaration) → atoms_of find source.stated ≡ Some atoms → slice_get source.declarations most_variables ≡ Some d
      → IsTooMany source d.at
  too_many atoms d made there = record { well = named_well atoms made; declaration = d; there = there; byte = refl }

-- ---- what excludes what

says_atoms : (source : PureSource) (t : PureAtomText) → Says source t → AreAtomsOf (names_of source.declarations) (sorts_of source.declarations) source.stated t.atoms
says_atoms source t says =
    subst (λ names. AreAtomsOf names (sorts_of source.declarations) source.stated t.atoms) (sym says.names)
    (subst (λ vars. AreAtomsOf t.names vars source.stated t.atoms) (sym says.vars) says.atoms)

says_distinct : (source : PureSource) (t : PureAtomText) → Says source t → IsDistinct (names_of source.declarations)
says_distinct source t says = subst IsDistinct (sym says.names) says.distinct

no_fault : (source : PureSource) (t : PureAtomText) (at : ℕ) (kind : InvalidKind) → Says source t → IsAtFault source at kind → ⊥
no_fault source t at faults.Duplicate says f =
    let b = f.before in
    let same = says_distinct source t says b.first f.place b.name b.there b.again in
    let before = b.before in
    omega (arith, same, before)
no_fault source t at faults.UnknownName says f =
    let u = f.unknown in
    let a = said_at (names_of source.declarations) (sorts_of source.declarations) source.stated t.atoms f.place f.stated (says_atoms source t says) u.there in
    atom_not_another (names_of source.declarations) (sorts_of source.declarations) (one_length source.declarations) f.stated.expression a.0 a.1 u.other
no_fault source t at faults.TooMany says f =
    let past = slice_get_within source.declarations most_variables f.declaration f.there in
    omega (arith, past, says.few, ap length says.names, length-map source.declarations (λ (d : Declaration). d.name))
no_fault source t at faults.BadLabel says f = absurd f
no_fault source t at faults.NoEnd says f = absurd f
no_fault source t at faults.Arity says f = absurd f
no_fault source t at faults.Memory says f = absurd f

-- a text that spells variables and atoms is refused for want of memory alone
pub no_refusal : (bytes : List ℕ) (at : ℕ) (kind : RefusedKind) (t : PureAtomText) → IsRefusedFor bytes at kind → SpellAtoms bytes t → kind ≡ kinds.Memory
no_refusal bytes at kinds.Lex t h (source, s, says) = absurd (none_or_tokens bytes at s.tokens h s.text)
no_refusal bytes at kinds.Nesting t (tokens, ls, are, (left, deep, place)) (source, s, says) = absurd (deep.whole (spelled_as_read bytes tokens ls source are.text are.stand s).0)
no_refusal bytes at kinds.Syntax t (tokens, ls, are, nested, none, place) (source, s, says) = absurd (none source (spelled_as_read bytes tokens ls source are.text are.stand s).1)
no_refusal bytes at (kinds.Invalid kind) t (other, s, fault) (source, spell, says) =
    absurd (no_fault other t at kind (subst (λ k. Says k t) (one_reading bytes source other spell s) says) fault)
no_refusal bytes at kinds.Limit t h spells = absurd h
no_refusal bytes at kinds.Entry t h spells = absurd h
no_refusal bytes at kinds.Modes t h spells = absurd h
no_refusal bytes at kinds.Memory t h spells = refl

same_parts : (t u : PureAtomText) → t.names ≡ u.names → t.vars ≡ u.vars → t.atoms ≡ u.atoms → t ≡ u
same_parts t u names vars atoms =
    ap (λ xs. record { names = xs; vars = t.vars; atoms = t.atoms }) names
    ∙ ap (λ xs. record { names = u.names; vars = xs; atoms = t.atoms }) vars
    ∙ ap (λ xs. record { names = u.names; vars = u.vars; atoms = xs }) atoms

pub one_text : (bytes : List ℕ) (t u : PureAtomText) → SpellAtoms bytes t → SpellAtoms bytes u → t ≡ u
one_text bytes t u (source, s, says) (other, spell, says') =
    let also : Says source u = subst (λ k. Says k u) (sym (one_reading bytes source other s spell)) says' in
    same_parts t u (sym says.names ∙ also.names) (sym says.vars ∙ also.vars)
    (one_list (names_of source.declarations) (sorts_of source.declarations) (one_length source.declarations) (says_distinct source t says) source.stated t.atoms u.atoms
    (says_atoms source t says) (says_atoms source u also))

-- the atoms of a text are over its variables
pub text_over : (bytes : List ℕ) (t : PureAtomText) → SpellAtoms bytes t → AreOver t.vars t.atoms
text_over bytes t (source, s, says) = said_over t.names t.vars source.stated t.atoms says.atoms
