-- Reading the commands of a body one after another, as a loop does.
use Rattle.std.proofs.Common.{◌≡◌, ℕ, suc, ◌+◌, List, [], ◌∷◌, ◌++◌, length, map, Some, Result, refl, sym, ap, ◌∙◌, subst, arith, length-append}
use Rattle.std.proofs.lemmas.List.{map_push}
use Rattle.gil_lexer.specs.declared.signs.Sign.TheVariants.{RightBrace}
use Rattle.gil_lexemes.specs.declared.standing.Lexeme.{Lexeme}
use Rattle.gil_lexemes.specs.declared.stops.Stop.{Stop}
use Rattle.gil_lexemes.specs.declared.stops.Stop.TheVariants as stops
use Rattle.gil_lexemes.specs.Lists.{each_until}
use Rattle.gil_lexemes.specs.Reading.{◌>>=◌, Fails}
use Rattle.gil_syntax.specs.Pure.{PureCommand, PureNumberedCommand}
use Rattle.gil_syntax.specs.Programs.{numbered_from}
use Rattle.gil_grammar.specs.Programs.{commands_of}
use Rattle.gil_grammar.specs.Reading.Commands.{statement_at}
use Rattle.gil_grammar.specs.Reading.Programs.{body_at}

numbered_push : (n : ℕ) (cs : List PureCommand) (c : PureCommand) → numbered_from n (cs ++ c ∷ []) ≡ numbered_from n cs ++ record { command = c; at = n + length cs } ∷ []
numbered_push n [] c = let e : n ≡ n + 0 = omega arith in ap (λ k. record { command = c; at = k } ∷ []) e
numbered_push n (b ∷ cs) c =
    let e : n + 1 + length cs ≡ n + length (b ∷ cs) = omega arith in
    ap (λ rest. record { command = b; at = n } ∷ rest) (numbered_push (n + 1) cs c ∙ ap (λ k. numbered_from (n + 1) cs ++ record { command = c; at = k } ∷ []) e)

length-commands : (body : List PureNumberedCommand) → length (commands_of body) ≡ length body
length-commands [] = refl
length-commands (c ∷ body) = ap suc (length-commands body)

-- the numbers are the indices, for as many commands as there are
pub record AreNumbered (body : List PureNumberedCommand) (count : ℕ) : Type 0 where
  pub numbered : body ≡ numbered_from 0 (commands_of body)
  pub count_is : length body ≡ count

pub commands_push : (body : List PureNumberedCommand) (c : PureNumberedCommand) → commands_of (body ++ c ∷ []) ≡ commands_of body ++ c.command ∷ []
commands_push body c = map_push (λ (d : PureNumberedCommand). d.command) body c

-- one more command
pub numbered_more : (body : List PureNumberedCommand) (count : ℕ) (c : PureCommand) → AreNumbered body count → AreNumbered (body ++ record { command = c; at = count } ∷ []) (count + 1)
numbered_more body count c h =
    let one : PureNumberedCommand = record { command = c; at = count } in
    let place : count ≡ 0 + length (commands_of body) = omega (arith, length-commands body, h.count_is) in
    let last : one ≡ record { command = c; at = 0 + length (commands_of body) } = ap (λ k. record { command = c; at = k }) place in
    record {
      numbered =
          ap (λ (front : List PureNumberedCommand). front ++ one ∷ []) h.numbered
          ∙ ap (λ (d : PureNumberedCommand). numbered_from 0 (commands_of body) ++ d ∷ []) last
          ∙ sym (numbered_push 0 (commands_of body) c)
          ∙ ap (numbered_from 0) (sym (commands_push body one));
      count_is = length-append body (one ∷ []) ∙ omega (arith, h.count_is);
    }

-- a body that was read to its end
pub body_read : (ls rest : List Lexeme) (body : List PureNumberedCommand) (count : ℕ) → AreNumbered body count → each_until statement_at (length ls) RightBrace ls ≡ Some (commands_of body, rest)
    → body_at ls ≡ Some (body, rest)
unfolding body_at
body_read ls rest body count h e = rw e (ap (λ b. Some (b, rest)) (sym h.numbered))

pub body_stops : (stop : Stop) (ls : List Lexeme) → Fails stop (each_until statement_at (length ls) RightBrace ls) → Fails stop (body_at ls)
unfolding body_at
body_stops stops.Memory ls e = tt
body_stops (stops.Syntax left) ls e = rw e refl
