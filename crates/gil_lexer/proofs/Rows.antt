-- Rows that show what the definitions say, each with the outcome that the rules give it.
use Rattle.std.proofs.Common.{negsuc, [], ◌∷◌, ◌++◌, Some, None, refl, inl, inr, codes, arith}
use Rattle.std.proofs.lemmas.Int.{ints}
use Rattle.gil_lexer.specs.Spelling.{IsName, SpellsNumber, IsNumber, SpellsText, IsToken}
use Rattle.gil_lexer.specs.Texts.{IsBlank, AreTokensOf}
use Rattle.gil_lexer.specs.declared.forms.Form.TheVariants as forms
use Rattle.gil_lexer.specs.declared.signs.Sign.TheVariants as signs
use Rattle.gil_lexer.specs.Signs.{sign_bytes, all_signs}
use Rattle.gil_lexer.specs.Reading.{sign_of}
use Rattle.gil_lexer.proofs.SignLemmas.{sign_of_longest}
use Rattle.gil_lexer.proofs.BlankLaws.{blanks_none}

-- t$0 is a name
temporary : IsName (codes "t$0")
temporary = (refl, refl)

-- -007 spells the number -7
leading_zeros : SpellsNumber (codes "-007") (negsuc 6)
leading_zeros = (codes "007", (refl, refl), inr (refl, refl))

-- a quote, an LF and a backslash are written as escapes
escapes : SpellsText (codes "\"\\\"\\n\\\\\"") (34 ∷ 10 ∷ 92 ∷ [])
escapes = (refl, refl)

-- a comment goes to its line feed
comment : IsBlank (codes "// :=" ++ 10 ∷ [])
comment = inr (codes " :=", refl, refl)

-- `--1` is the sign `-` and the number -1
minus_one : IsNumber (codes "-1")
minus_one = (negsuc 0, omega (arith, ints), (codes "1", (refl, refl), inr (refl, refl)))

minus_first : IsToken None (forms.Sign signs.Minus) (codes "-") (codes "-1")
unfolding sign_of sign_bytes all_signs
minus_first = (refl, (sign_of_longest (codes "--1") signs.Minus refl, refl, λ _. refl))

two_signs : AreTokensOf (record { form = forms.Sign signs.Minus; from = 0; to = 1 } ∷ record { form = forms.Number; from = 1; to = 3 } ∷ []) (codes "--1")
two_signs = (
  record { before = Some forms.Number; at = 3; rest = [] },
  (
    record { before = Some (forms.Sign signs.Minus); at = 1; rest = codes "-1" },
    record { gap = []; text = codes "-"; bytes = refl; blanks = blanks_none; spelled = minus_first; from = refl; to = refl; at = refl; before = refl },
    (
      record { before = Some forms.Number; at = 3; rest = [] },
      record { gap = []; text = codes "-1"; bytes = refl; blanks = blanks_none; spelled = (minus_one, (refl, λ _. refl)); from = refl; to = refl; at = refl; before = refl },
      refl,
    ),
  ),
  inl blanks_none,
)
