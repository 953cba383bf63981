-- What leads through a text: one token after another, in one way alone.
use Rattle.std.proofs.Common.{◌≡◌, ◌≢◌, ℕ, ◌+◌, ◌-◌, ◌≤◌, true, false, eqb, List, [], ◌∷◌, ◌++◌, length, take, drop, length-append, Option, Some, None, Result, Ok, Err, refl, ap, sym, ◌∙◌, arith, inl, inr, subst}
use Rattle.std.proofs.lemmas.List.{take-append-drop, take_at, drop_at, append_cancel_right, length-take-le, length-drop, drop-drop}
use Rattle.std.proofs.lemmas.Bool.{eqb-true}
use Rattle.std.proofs.lemmas.List.Elements.{All-from_recursion}
use Rattle.std.specs.List.{All, AllByRecursion, slice_range}
use Rattle.gil_lexer.specs.Reading.{token_at, after_blanks}
use Rattle.gil_lexer.specs.Spelling.{takes_minus, Spells, IsToken}
use Rattle.gil_lexer.specs.Texts.{AreBlanks, AreLastBlanks, Place, start, Passes, Lead, AreTokensOf, IsSlice}
use Rattle.gil_lexer.specs.Faults.{IsFault, StopsAt}
use Rattle.gil_lexer.specs.declared.forms.Form.{Form}
use Rattle.gil_lexer.specs.declared.forms.Token.{Token}
use Rattle.gil_lexer.specs.declared.faults.LexKind.{LexKind}
use Rattle.gil_lexer.specs.declared.faults.LexKind.TheVariants as kinds
use Rattle.gil_lexer.proofs.BlankLaws.{IsStart, skip_blanks, stop_at_start, skip_last_blanks, Outside, blanks_parts}
use Rattle.gil_lexer.proofs.TokenLaws.{Says, token_at_says}
use Rattle.gil_lexer.proofs.TokenReads.{token_at_reads}
use Rattle.gil_lexer.proofs.FaultReads.{Begins, token_begins, fault_begins, fault_reads, form_of, length_of}

-- one token more
pub lead_one_more : (p q r : Place) (tokens : List Token) (token : Token) → Lead p tokens q → Passes q token r → Lead p (tokens ++ token ∷ []) r
lead_one_more p q r [] token same pass = (r, subst (λ x. Passes x token r) (sym same) pass, refl)
lead_one_more p q r (t ∷ ts) token (next, first, others) pass = (next, first, lead_one_more next q r ts token others pass)

passes_length : (p q : Place) (token : Token) → Passes p token q → q.at + length q.rest ≡ p.at + length p.rest
passes_length p q token h =
    let whole = ap length h.bytes in
    let outer = length-append h.gap (h.text ++ q.rest) in
    let inner = length-append h.text q.rest in
    let to = h.to in
    let from = h.from in
    let at = h.at in
    omega (arith, whole, outer, inner, to, from, at)

-- the bytes before a place and those behind are all bytes
pub lead_length : (p q : Place) (tokens : List Token) → Lead p tokens q → q.at + length q.rest ≡ p.at + length p.rest
lead_length p q [] same = ap (λ (x : Place). x.at + length x.rest) (sym same)
lead_length p q (t ∷ ts) (next, first, others) = lead_length next q ts others ∙ passes_length p next t first

-- The tokens so far lead to a place, and behind its blanks the rest follows.
pub record Reached (bytes : List ℕ) (tokens : List Token) (before : Option Form) (rest : List ℕ) : Type 0 where
  pub place : Place
  pub lead : Lead (start bytes) tokens place
  pub before_is : place.before ≡ before
  pub rest_is : rest ≡ after_blanks false place.rest

pub reached_start : (bytes : List ℕ) → Reached bytes [] None (after_blanks false bytes)
reached_start bytes = record { place = start bytes; lead = refl; before_is = refl; rest_is = refl }

-- where bytes are left, they begin a token or a fault
pub record Behind (bytes : List ℕ) (tokens : List Token) (before : Option Form) (rest : List ℕ) : Type 0 where
  pub place : Place
  pub lead : Lead (start bytes) tokens place
  pub before_is : place.before ≡ before
  pub gap : List ℕ
  pub blanks : AreBlanks gap
  pub split : place.rest ≡ gap ++ rest
  pub begin : IsStart rest

behind_parts : (bytes : List ℕ) (tokens : List Token) (before : Option Form) (rest : List ℕ) → rest ≢ [] → (h : Reached bytes tokens before rest) → Outside h.place.rest rest → Behind bytes tokens before rest
behind_parts bytes tokens before rest some h (inl (none, last)) = absurd (some none)
behind_parts bytes tokens before rest some h (inr (gap, blanks, split, begin, _)) =
    record { place = h.place; lead = h.lead; before_is = h.before_is; gap = gap; blanks = blanks; split = split; begin = begin }

pub behind_from : (bytes : List ℕ) (tokens : List Token) (before : Option Form) (rest : List ℕ) → rest ≢ [] → Reached bytes tokens before rest → Behind bytes tokens before rest
behind_from bytes tokens before rest some h =
    behind_parts bytes tokens before rest some h (subst (Outside h.place.rest) (sym h.rest_is) (blanks_parts h.place.rest))

behind_at : (bytes : List ℕ) (tokens : List Token) (before : Option Form) (rest : List ℕ) → (h : Behind bytes tokens before rest) → length bytes - length rest ≡ h.place.at + length h.gap
behind_at bytes tokens before rest h =
    let whole = lead_length (start bytes) h.place tokens h.lead in
    let parts = ap length h.split in
    let count = length-append h.gap rest in
    omega (arith, whole, parts, count)

says_here : (before : Option Form) (rest : List ℕ) → rest ≢ [] → IsStart rest → Says before rest (token_at (takes_minus before) rest)
says_here before [] some begin = absurd (some refl)
says_here before (b ∷ bs) some begin = token_at_says before b bs begin.blank begin.comment

-- a token that is answered leads on
pub reached_token : (bytes : List ℕ) (tokens : List Token) (before : Option Form) (rest : List ℕ) (token : Token) → rest ≢ [] → Reached bytes tokens before rest
    → token.from ≡ length bytes - length rest → token.from ≤ token.to → token_at (takes_minus before) rest ≡ Ok (token.form, token.to - token.from)
    → Reached bytes (tokens ++ token ∷ []) (Some token.form) (after_blanks false (drop (token.to - token.from) rest))
reached_token bytes tokens before rest token some reached from forward answer =
    let h = behind_from bytes tokens before rest some reached in
    let n = token.to - token.from in
    let says = subst (Says before rest) answer (says_here before rest some h.begin) in
    let next : Place = record { before = Some token.form; at = token.to; rest = drop n rest } in
    let taken = length-take-le n rest says.0 in
    let pass : Passes h.place token next = record {
      gap = h.gap;
      text = take n rest;
      bytes = h.split ∙ ap (λ x. h.gap ++ x) (sym (take-append-drop n rest));
      blanks = h.blanks;
      spelled = subst (λ b. IsToken b token.form (take n rest) (drop n rest)) (sym h.before_is) says.1;
      from = from ∙ behind_at bytes tokens before rest h;
      to = omega (arith, taken);
      at = refl;
      before = refl;
    } in
    record {
      place = next;
      lead = lead_one_more (start bytes) h.place next tokens token h.lead pass;
      before_is = refl;
      rest_is = refl;
    }

-- the text's end
end_parts : (bytes : List ℕ) (tokens : List Token) (before : Option Form) → (h : Reached bytes tokens before []) → Outside h.place.rest [] → AreTokensOf tokens bytes
end_parts bytes tokens before h (inl (none, last)) = (h.place, h.lead, last)
end_parts bytes tokens before h (inr (gap, blanks, split, begin, some)) = absurd (some refl)

pub reached_end : (bytes : List ℕ) (tokens : List Token) (before : Option Form) (rest : List ℕ) → rest ≡ [] → Reached bytes tokens before rest → AreTokensOf tokens bytes
reached_end bytes tokens before rest none reached =
    let h = subst (Reached bytes tokens before) none reached in
    end_parts bytes tokens before h (subst (Outside h.place.rest) (sym h.rest_is) (blanks_parts h.place.rest))

-- a fault that is answered stands there
pub reached_fault : (bytes : List ℕ) (tokens : List Token) (before : Option Form) (rest : List ℕ) (kind : LexKind) → rest ≢ [] → Reached bytes tokens before rest → token_at (takes_minus before) rest ≡ Err kind → StopsAt kind (length bytes - length rest) bytes
reached_fault bytes tokens before rest kind some reached answer =
    let h = behind_from bytes tokens before rest some reached in
    let says = subst (Says before rest) answer (says_here before rest some h.begin) in
    record {
      tokens = tokens;
      place = h.place;
      gap = h.gap;
      rest = rest;
      lead = h.lead;
      behind = h.split;
      blanks = h.blanks;
      reached = behind_at bytes tokens before rest h;
      fault = subst (λ b. IsFault kind b rest) (sym h.before_is) says;
    }

-- memory may run out at any token
pub reached_memory : (bytes : List ℕ) (tokens : List Token) (before : Option Form) (rest : List ℕ) → rest ≢ [] → Reached bytes tokens before rest → StopsAt kinds.Memory (length bytes - length rest) bytes
reached_memory bytes tokens before rest some reached =
    let h = behind_from bytes tokens before rest some reached in
    record {
      tokens = tokens;
      place = h.place;
      gap = h.gap;
      rest = rest;
      lead = h.lead;
      behind = h.split;
      blanks = h.blanks;
      reached = behind_at bytes tokens before rest h;
      fault = tt;
    }

-- what begins behind blanks is what the passing of blanks leaves
left : (text gap rest : List ℕ) → text ≡ gap ++ rest → AreBlanks gap → Begins rest → after_blanks false text ≡ rest
left text gap rest split blanks begins_rest = ap (after_blanks false) split ∙ skip_blanks gap rest blanks ∙ stop_at_start rest begins_rest.start

token_ext : (t u : Token) → t.form ≡ u.form → t.from ≡ u.from → t.to ≡ u.to → t ≡ u
token_ext t u form from to = λ i. record { form = form i; from = from i; to = to i }

place_ext : (p q : Place) → p.before ≡ q.before → p.at ≡ q.at → p.rest ≡ q.rest → p ≡ q
place_ext p q before at rest = λ i. record { before = before i; at = at i; rest = rest i }

-- what one step of reading finds at a place
passed : (p q : Place) (t : Token) → (h : Passes p t q) → (after_blanks false p.rest ≡ h.text ++ q.rest) × (token_at (takes_minus p.before) (h.text ++ q.rest) ≡ Ok (t.form, length h.text)) × ((h.text ++ q.rest) ≢ [])
passed p q t h =
    let begins_here = token_begins p.before t.form h.text q.rest h.spelled in
    (left p.rest h.gap (h.text ++ q.rest) h.bytes h.blanks begins_here, token_at_reads p.before t.form h.text q.rest h.spelled, begins_here.some)

-- one token alone leads on from a place
passes_once : (p q r : Place) (t u : Token) → Passes p t q → Passes p u r → (t ≡ u) × (q ≡ r)
passes_once p q r t u h k =
    let first = passed p q t h in
    let second = passed p r u k in
    let same : h.text ++ q.rest ≡ k.text ++ r.rest = sym first.0 ∙ second.0 in
    let answers : Path (Result (Form × ℕ) LexKind) (Ok (t.form, length h.text)) (Ok (u.form, length k.text)) = sym first.1 ∙ ap (token_at (takes_minus p.before)) same ∙ second.1 in
    let form = ap form_of answers in
    let count = ap length_of answers in
    let whole : h.gap ++ (k.text ++ r.rest) ≡ k.gap ++ (k.text ++ r.rest) = ap (λ x. h.gap ++ x) (sym same) ∙ sym h.bytes ∙ k.bytes in
    let gaps = append_cancel_right h.gap k.gap (k.text ++ r.rest) whole in
    let from : t.from ≡ u.from = h.from ∙ ap (λ x. p.at + length x) gaps ∙ sym k.from in
    let to : t.to ≡ u.to = h.to ∙ ap (λ n. t.from + n) count ∙ ap (λ n. n + length k.text) from ∙ sym k.to in
    let behind : q.rest ≡ r.rest = sym (drop_at h.text q.rest (length h.text) refl) ∙ ap (drop (length h.text)) same ∙ drop_at k.text r.rest (length h.text) (sym count) in
    (token_ext t u form from to, place_ext q r (h.before ∙ ap Some form ∙ sym k.before) (h.at ∙ to ∙ sym k.at) behind)

-- no token leads on from the last blanks
no_more : (p q : Place) (t : Token) → AreLastBlanks p.rest → Passes p t q → ⊥
no_more p q t last h = let found = passed p q t h in found.2 (sym found.0 ∙ skip_last_blanks p.rest last)

same_lead : (p q r : Place) (ts us : List Token) → Lead p ts q → AreLastBlanks q.rest → Lead p us r → AreLastBlanks r.rest → ts ≡ us
same_lead p q r [] [] h last k last' = refl
same_lead p q r [] (u ∷ us) h last (next, first, others) last' = absurd (no_more p next u (subst (λ (x : Place). AreLastBlanks x.rest) (sym h) last) first)
same_lead p q r (t ∷ ts) [] (next, first, others) last k last' = absurd (no_more p next t (subst (λ (x : Place). AreLastBlanks x.rest) (sym k) last') first)
same_lead p q r (t ∷ ts) (u ∷ us) (next, first, others) last (next', first', others') last' =
    let same = passes_once p next next' t u first first' in
    let rest = same_lead next q r ts us others last (subst (λ x. Lead x us r) (sym same.1) others') last' in
    ap (λ x. x ∷ ts) same.0 ∙ ap (λ x. u ∷ x) rest

-- one text has one reading
pub one_list : (ts us : List Token) (bytes : List ℕ) → AreTokensOf ts bytes → AreTokensOf us bytes → ts ≡ us
one_list ts us bytes (end, lead, last) (end', lead', last') = same_lead (start bytes) end end' ts us lead last lead' last'

-- a fault at a place
record Stuck (p : Place) : Type 0 where
  kind : LexKind
  gap : List ℕ
  rest : List ℕ
  other : kind ≢ kinds.Memory
  split : p.rest ≡ gap ++ rest
  blanks : AreBlanks gap
  fault : IsFault kind p.before rest

stuck_left : (p : Place) → (h : Stuck p) → (after_blanks false p.rest ≡ h.rest) × (token_at (takes_minus p.before) h.rest ≡ Err h.kind) × (h.rest ≢ [])
stuck_left p h =
    let begins_here = fault_begins h.kind p.before h.rest h.other h.fault in
    (left p.rest h.gap h.rest h.split h.blanks begins_here, fault_reads h.kind p.before h.rest h.other h.fault, begins_here.some)

stuck_or_passes : (p q : Place) (t : Token) → Stuck p → Passes p t q → ⊥
stuck_or_passes p q t h k =
    let first = stuck_left p h in
    let second = passed p q t k in
    let same : h.rest ≡ k.text ++ q.rest = sym first.0 ∙ second.0 in
    let answer = ap (token_at (takes_minus p.before)) same in
    absurd (cc (first.1, second.1, answer))

no_end : (p q r : Place) (ts us : List Token) → Lead p ts q → Stuck q → Lead p us r → AreLastBlanks r.rest → ⊥
no_end p q r [] [] h stuck k last =
    let found = stuck_left q stuck in
    let none = skip_last_blanks r.rest last in
    let same : q ≡ r = sym h ∙ k in
    found.2 (sym found.0 ∙ ap (λ (x : Place). after_blanks false x.rest) same ∙ none)
no_end p q r [] (u ∷ us) h stuck (next, first, others) last = stuck_or_passes p next u (subst Stuck (sym h) stuck) first
no_end p q r (t ∷ ts) [] (next, first, others) stuck k last = no_more p next t (subst (λ (x : Place). AreLastBlanks x.rest) (sym k) last) first
no_end p q r (t ∷ ts) (u ∷ us) (next, first, others) stuck (next', first', others') last =
    let same = passes_once p next next' t u first first' in
    no_end next q r ts us others stuck (subst (λ x. Lead x us r) (sym same.1) others') last

stuck_at : (kind : LexKind) (at : ℕ) (bytes : List ℕ) → kind ≢ kinds.Memory → (h : StopsAt kind at bytes) → Stuck h.place
stuck_at kind at bytes other h = record { kind = kind; gap = h.gap; rest = h.rest; other = other; split = h.behind; blanks = h.blanks; fault = h.fault }

-- where a fault stands, the text isn't all tokens and blanks
pub fault_or_tokens : (kind : LexKind) (at : ℕ) (bytes : List ℕ) (tokens : List Token) → kind ≢ kinds.Memory → StopsAt kind at bytes → AreTokensOf tokens bytes → ⊥
fault_or_tokens kind at bytes tokens other h (end, lead, last) =
    no_end (start bytes) h.place end h.tokens tokens h.lead (stuck_at kind at bytes other h) lead last

-- The bytes that follow a place are those of the text from there on.
pub record Follows (bytes : List ℕ) (p : Place) : Type 0 where
  rest : p.rest ≡ drop p.at bytes
  within : p.at ≤ length bytes

pub follows_start : (bytes : List ℕ) → Follows bytes (start bytes)
follows_start bytes = record { rest = refl; within = omega arith }

-- the slice of a token that leads on is the token's text
pub record Sliced (bytes : List ℕ) (p q : Place) (t : Token) (h : Passes p t q) : Type 0 where
  pub text : slice_range bytes t.from t.to ≡ h.text
  pub forward : t.from ≤ t.to
  pub within : t.to ≤ length bytes
  pub follows : Follows bytes q

pub slice_text : (bytes : List ℕ) (p q : Place) (t : Token) → Follows bytes p → (h : Passes p t q) → Sliced bytes p q t h
slice_text bytes p q t f h =
    let whole = passes_length p q t h in
    let all : p.at + length p.rest ≡ length bytes = let count = ap length f.rest ∙ length-drop p.at bytes in let within = f.within in omega (arith, count) in
    let from_text : drop t.from bytes ≡ h.text ++ q.rest =
    ap (λ n. drop n bytes) (h.from) ∙ sym (drop-drop (length h.gap) p.at bytes) ∙ ap (drop (length h.gap)) (sym f.rest ∙ h.bytes) ∙ drop_at h.gap (h.text ++ q.rest) (length h.gap) refl in
    let to = h.to in
    let at = h.at in
    let count : t.to - t.from ≡ length h.text = omega (arith, to) in
    let behind : q.rest ≡ drop q.at bytes =
    sym (drop_at h.text q.rest (length h.text) refl) ∙ ap (drop (length h.text)) (sym from_text) ∙ drop-drop (length h.text) t.from bytes ∙ ap (λ n. drop n bytes) (sym h.to ∙ sym h.at) in
    record {
      text = ap (λ n. take n (drop t.from bytes)) count ∙ ap (take (length h.text)) from_text ∙ take_at h.text q.rest (length h.text) refl;
      forward = omega (arith, to);
      within = omega (arith, whole, all, at);
      follows = record { rest = behind; within = omega (arith, whole, all) };
    }

slice_here : (bytes : List ℕ) (p q : Place) (t : Token) → Follows bytes p → Passes p t q → IsSlice bytes t × Follows bytes q
slice_here bytes p q t f h =
    let s = slice_text bytes p q t f h in
    (record { forward = s.forward; within = s.within; spelled = subst (Spells t.form) (sym s.text) h.spelled.0 }, s.follows)

slices_from : (bytes : List ℕ) (p q : Place) (ts : List Token) → Follows bytes p → Lead p ts q → AllByRecursion (IsSlice bytes) ts
slices_from bytes p q [] f h = tt
slices_from bytes p q (t ∷ ts) f (next, first, others) =
    let here = slice_here bytes p next t f first in
    (here.0, slices_from bytes next q ts here.1 others)

-- each token is a slice of the text
pub slices : (ts : List Token) (bytes : List ℕ) → AreTokensOf ts bytes → All (IsSlice bytes) ts
slices ts bytes (end, lead, last) =
    All-from_recursion _ _ (slices_from bytes (start bytes) end ts (follows_start bytes) lead)

-- tests of the length
pub some_left : (rest : List ℕ) → false ≡ eqb (length rest) 0 → rest ≢ []
some_left rest e none = let read = rw none at e in cc read

pub none_left : (rest : List ℕ) → true ≡ eqb (length rest) 0 → rest ≡ []
none_left [] e = refl
none_left (b ∷ bs) e = let none = eqb-true (length (b ∷ bs)) 0 (sym e) in absurd (omega arith)

-- two faults at one place
same_stuck : (q r : Place) → q ≡ r → (h : Stuck q) → (k : Stuck r) → (h.kind ≡ k.kind) × (length h.gap ≡ length k.gap)
same_stuck q r same h k =
    let first = stuck_left q h in
    let second = stuck_left r k in
    let rest : h.rest ≡ k.rest = sym first.0 ∙ ap (λ (x : Place). after_blanks false x.rest) same ∙ second.0 in
    let answers : Path (Result (Form × ℕ) LexKind) (Err h.kind) (Err k.kind) =
    sym first.1 ∙ ap (λ (x : Place). token_at (takes_minus x.before) h.rest) same ∙ ap (token_at (takes_minus r.before)) rest ∙ second.1 in
    let whole = ap (λ (x : Place). length x.rest) same in
    let here = ap length h.split ∙ length-append h.gap h.rest in
    let there = ap length k.split ∙ length-append k.gap k.rest in
    let left_over = ap length rest in
    (cc answers, omega (arith, whole, here, there, left_over))

same_place : (p q r : Place) (ts us : List Token) → Lead p ts q → Stuck q → Lead p us r → Stuck r → q ≡ r
same_place p q r [] [] h stuck k other = sym h ∙ k
same_place p q r [] (u ∷ us) h stuck (next, first, others) other = absurd (stuck_or_passes p next u (subst Stuck (sym h) stuck) first)
same_place p q r (t ∷ ts) [] (next, first, others) stuck k other = absurd (stuck_or_passes p next t (subst Stuck (sym k) other) first)
same_place p q r (t ∷ ts) (u ∷ us) (next, first, others) stuck (next', first', others') other =
    let same = passes_once p next next' t u first first' in
    same_place next q r ts us others stuck (subst (λ x. Lead x us r) (sym same.1) others') other

-- a text has one fault at most
pub one_stop : (kind kind' : LexKind) (at at' : ℕ) (bytes : List ℕ) → kind ≢ kinds.Memory → kind' ≢ kinds.Memory → StopsAt kind at bytes → StopsAt kind' at' bytes → (kind ≡ kind') × (at ≡ at')
unfolding stuck_at
one_stop kind kind' at at' bytes other other' h k =
    let first = stuck_at kind at bytes other h in
    let second = stuck_at kind' at' bytes other' k in
    let same = same_place (start bytes) h.place k.place h.tokens k.tokens h.lead first k.lead second in
    let both = same_stuck h.place k.place same first second in
    (both.0, h.reached ∙ ap (λ (x : Place). x.at + length h.gap) same ∙ ap (λ n. k.place.at + n) both.1 ∙ sym k.reached)
