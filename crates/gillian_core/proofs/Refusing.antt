-- Why texts aren't accepted.
use Rattle.std.proofs.Common.{◌≡◌, ◌≢◌, inl, inr, ℕ, List, length, Option, Some, None, Result, Ok, Err, IfOk, IfErr, MatchResult, refl}
use Rattle.std.proofs.Common.{sym, ◌∙◌, ap, subst}
use Rattle.gil_syntax.specs.Pure.{PureParts}
use Rattle.gil_syntax.specs.Valid.{IsValid}
use Rattle.gil_grammar.specs.Texts.{SpellProgram}
use Rattle.assert_logic.specs.Modes.{HasModes}
use Rattle.gil_text.specs.Refusals.{IsRefused}
use Rattle.gil_text.specs.declared.refused.Refused.{Refused}
use Rattle.gil_text.specs.declared.refused.RefusedKind.{RefusedKind}
use Rattle.gil_text.specs.declared.refused.RefusedKind.TheVariants as kinds
use Rattle.source_language.specs.declared.limits.TooMany.{TooMany}
use Rattle.source_language.specs.Limits.{IsLimitOf}
use Rattle.gillian_words.specs.Tasks.{PureTask}
use Rattle.gillian_core.specs.Accepted.{IsAccepted}
use Rattle.gillian_core.specs.Compiled.{IsSourceOf, SourceLanguage, definition_by_source, limit_refusal}
use Rattle.gillian_core.specs.Definitions.{Definition}
use Rattle.gillian_core.specs.Finishing.{IsCause, IsNoEntry, IsNoOutput, IsNoProgram, IsNoReadable}
use Rattle.gillian_core.specs.Gil.{IsTextOf, gil_record}
use Rattle.gillian_core.specs.Refusals.{IsFirstKind, IsPlaceIn}
use Rattle.gillian_core.specs.Right.{IsProgramOf}

-- want of memory needs no cause
pub no_cause : (X : Type 0) (F : ℕ → RefusedKind → Type 0) (r : Refused) → r.kind ≡ kinds.Memory → IsCause X F r
no_cause X F r is = record { never = λ refused x. refused is; fault = λ refused. absurd (refused is) }

pub no_output_for_memory : (t : PureTask) (bytes : List ℕ) (r : Refused) → r.kind ≡ kinds.Memory → IsNoOutput t bytes r
no_output_for_memory t bytes r is = λ refused. absurd (refused is)

pub memory_alone : {T : Type 0} (t : PureTask) (bytes : List ℕ) (r : Result T Refused) → IfErr r (λ refused. refused.kind ≡ kinds.Memory)
    → IfErr r (IsNoOutput t bytes)
memory_alone t bytes (Ok x) is = tt
memory_alone t bytes (Err e) is = no_output_for_memory t bytes e is

-- what is the cause for all that is asked refuses the text
pub refused_for : (t : PureTask) (bytes : List ℕ) (r : Refused) → IsCause (IsAccepted t bytes) (IsFirstKind t bytes) r → IsNoOutput t bytes r
refused_for t bytes r cause = λ refused. record { not_accepted = cause.never refused; kind = cause.fault refused }

-- ---- GIL

module _ {T : Type 0} (view : T → PureParts) (bytes : List ℕ) where
  pub gil_program : (r : Result T Refused) → IfOk r (λ prog. SpellProgram bytes (view prog)) → IfOk r (λ prog. IsValid (view prog))
      → IfOk r (λ prog. IsProgramOf gil_record bytes (view prog))
  gil_program (Ok prog) spelled valid = (record { spelled = spelled; valid = valid }, tt)
  gil_program (Err refused) spelled valid = tt

  pub gil_only : (r : Result T Refused)
      → ((p : PureParts) → SpellProgram bytes p → IsValid p → MatchResult r (λ prog. view prog ≡ p) (λ refused. refused.kind ≡ kinds.Memory))
      → IfOk r (λ prog. (p : PureParts) → IsTextOf bytes p → view prog ≡ p)
  gil_only (Ok prog) only = λ p text. only p text.spelled text.valid
  gil_only (Err refused) only = tt

  pub gil_unread : (r : Result T Refused)
      → ((p : PureParts) → SpellProgram bytes p → IsValid p → MatchResult r (λ prog. view prog ≡ p) (λ refused. refused.kind ≡ kinds.Memory))
      → IfErr r (IsRefused bytes) → IfErr r (IsNoProgram gil_record bytes)
  gil_unread (Ok prog) only refused = tt
  gil_unread (Err r) only refused = record {
    never = λ k has. k (only has.0 has.1.spelled has.1.valid);
    fault = λ k. (k, refused);
  }

-- ---- sources

none_and_some : (o : Option ℕ) (n : ℕ) → o ≡ None → o ≡ Some n → ⊥
none_and_some o n none some = cc

module _ (l : SourceLanguage) (bytes : List ℕ) where
  -- a source that is compiled is that of the text, and so is its program
  pub one_compiled : (s : l.Source) (p : PureParts) → p ≡ l.compiled s → ((r : l.Source) → l.Spells bytes r → l.IsValid r → s ≡ r)
      → (q : PureParts) → IsSourceOf l bytes q → p ≡ q
  one_compiled s p is only q text = is ∙ ap l.compiled (only text.source text.spelled text.valid) ∙ text.program

  pub source_unread : (r : Refused) → ((s : l.Source) → l.Spells bytes s → l.IsValid s → r.kind ≡ kinds.Memory)
      → l.IsRefusedFor bytes r.at r.kind → IsNoProgram (definition_by_source l) bytes r
  source_unread r only refused = record {
    never = λ k has. k (only has.1.source has.1.spelled has.1.valid);
    fault = λ k. inl (k, refused);
  }

  pub source_too_long : (s : l.Source) (e : TooMany) → l.Spells bytes s → l.IsValid s → ((r : l.Source) → l.Spells bytes r → l.IsValid r → s ≡ r)
      → IsLimitOf (l.first_too_long s) e → IsNoProgram (definition_by_source l) bytes (limit_refusal e)
  source_too_long s TooMany.Memory spelled valid only long = no_cause _ _ _ refl
  source_too_long s (TooMany.Limit at) spelled valid only long = record {
    never = λ k has. none_and_some (l.first_too_long s) at
        (subst (λ r. l.first_too_long r ≡ None) (sym (only has.1.source has.1.spelled has.1.valid)) has.1.short) long;
    fault = λ k. inr (refl, (s, spelled, valid, long));
  }

-- ---- entries

module _ (d : Definition) (IsWanted : PureParts → Type 0) (bytes : List ℕ) where
  -- without a program there is none with the entry that is wanted
  pub no_entry_of : (r : Refused) → IsNoProgram d bytes r → IsNoEntry d IsWanted bytes r
  no_entry_of r unread = record { never = λ k has. unread.never k (has.0, has.1); fault = λ k. inl (unread.fault k) }

  pub lacks_entry : (p : PureParts) → d.IsText bytes p → ((q : PureParts) → d.IsText bytes q → p ≡ q) → (IsWanted p → ⊥)
      → (r : Refused) → r.at ≡ length bytes → r.kind ≡ kinds.Entry → IsNoEntry d IsWanted bytes r
  lacks_entry p text only never r at kind = record {
    never = λ k has. never (subst IsWanted (sym (only has.0 has.1)) has.2);
    fault = λ k. inr (kind, (p, text, never), at);
  }

-- ---- modes

module _ (d : Definition) (bytes : List ℕ) where
  -- without a program there is none whose assertions can be read
  pub no_readable_of : (r : Refused) → IsNoProgram d bytes r → IsNoReadable d bytes r
  no_readable_of r unread = record { never = λ k has. unread.never k (has.0, has.1); fault = λ k. inl (unread.fault k) }

  pub lacks_modes : (p : PureParts) → d.IsText bytes p → ((q : PureParts) → d.IsText bytes q → p ≡ q) → (HasModes p d.memory.name → ⊥)
      → (r : Refused) → (r.kind ≢ kinds.Memory → (r.kind ≡ kinds.Modes) × IsPlaceIn bytes r.at) → IsNoReadable d bytes r
  lacks_modes p text only never r refused = record {
    never = λ k has. never (subst (λ q. HasModes q d.memory.name) (sym (only has.0 has.1)) has.2);
    fault = λ k. let (kind, place) = refused k in inr (kind, (p, text, never), place);
  }
