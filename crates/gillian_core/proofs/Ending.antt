-- How a call ends, from what its stages leave.
use Rattle.std.proofs.Common.{◌≡◌, ◌⊎◌, inl, inr, ◌≤◌, ◌<◌, ◌++◌, ℕ, List, [], length, length-append, Option, Some, None, IfSome, refl, sym}
use Rattle.std.proofs.Common.{◌∙◌, ap, subst, arith, Bool, true, false, if◌then◌else◌}
use Rattle.std.proofs.lemmas.Option.{same_Some}
use Rattle.std.specs.List.{list_all}
use Rattle.std.specs.Io.KnownBytes.{Appends, Consumes, IsAtEnd}
use Rattle.gil_io.specs.Faults.{FaultRose}
use Rattle.gil_io.specs.Reading.{Takes}
use Rattle.gil_io.specs.Writing.{IsUsedUp}
use Rattle.gil_text.specs.declared.refused.Refused.{Refused}
use Rattle.gillian_words.specs.Asked.{AskFor}
use Rattle.gillian_words.specs.Tasks.{PureTask, run, test, check, infer, compile, solve, sweep, PureRequest, reads_source}
use Rattle.gillian_core.specs.declared.status.Status.{Status}
use Rattle.gillian_core.specs.declared.status.Status.TheVariants.{Good, Found, Words, Text, ReadFault, WriteFault, Memory, TooLarge}
use Rattle.gillian_core.specs.Accepted.{IsAccepted}
use Rattle.gillian_core.specs.Outcomes.{Call, IsReported, Ends, written, write_failed, read_failed, out_of_memory, MayWrite, IsRead}
use Rattle.gillian_core.specs.Outcomes.{WordsFit, IsReadFor, IsRefused, IsRight, OfBytes, Refuses, Reports, most_bytes}
use Rattle.gillian_core.specs.Outputs.{PureOutput, a_report, a_program, is_good, output_status, output_text}
use Rattle.gillian_core.specs.Finishing.{Finishes, Answers, IsResponse, Told}
use Rattle.gillian_core.specs.Refusals.{IsRefusal, refusal_line}
use Rattle.gillian_core.specs.Right.{IsRightOutput}

-- what the sink of a call tells
abbrev told_of : Call → Told
told_of c = record { taken = c.taken; taken_after = c.taken_after; faults = c.write_faults; faults_after = c.write_faults_after; room = c.room }

pub ends_of_finish : (c : Call) (status result : Status) (text : List ℕ) → MayWrite c status text
    → Finishes (told_of c) text status result → Ends c result
ends_of_finish c status result text may (inl w) = subst (Ends c) (sym w.0) (written status text may w.1)
ends_of_finish c status result text may (inr w) = subst (Ends c) (sym w.0) (write_failed status text may w.1 w.2 w.3)

-- an output is written with a status of its own
by_goodness : (c : Call) (good : Bool) (text : List ℕ) → Reports c (if good then Good else Found) text → MayWrite c (if good then Good else Found) text
by_goodness c true text reports = reports
by_goodness c false text reports = reports

may_report : (c : Call) (output : PureOutput) (text : List ℕ) → Reports c (output_status output) text → MayWrite c (output_status output) text
may_report c (a_report r) text reports = by_goodness c (list_all is_good r.answers) text reports
may_report c (a_program p) text reports = reports

if_some_weaker : {X : Type 0} (o : Option X) (P Q : X → Type 0) → ((x : X) → P x → Q x) → IfSome o P → IfSome o Q
if_some_weaker None P Q f h = tt
if_some_weaker (Some x) P Q f h = f x h

-- what is done without a text refuses none
reads_if_refused : (t : PureTask) (bytes : List ℕ) (r : Refused) → IsRefusal t bytes r → reads_source t ≡ true
reads_if_refused (run language entry bound inputs) bytes r refusal = refl
reads_if_refused (test language entry bound) bytes r refusal = refl
reads_if_refused (check language bound) bytes r refusal = refl
reads_if_refused (infer language entry bound) bytes r refusal = refl
reads_if_refused (compile language) bytes r refusal = refl
reads_if_refused solve bytes r refusal = refl
reads_if_refused (sweep size) bytes r refusal = absurd (refusal.not_accepted tt)

pub false_and_true : (b : Bool) → b ≡ false → b ≡ true → ⊥
false_and_true b f t = cc

read_of : (c : Call) (reads : Bool) → reads ≡ true → IsReadFor reads c → IsRead c
read_of c true is read = read
read_of c false is read = absurd (false_and_true false refl is)

pub read_for : (c : Call) (reads : Bool) → reads ≡ true → IsRead c → IsReadFor reads c
read_for c true is read = read
read_for c false is read = absurd (false_and_true false refl is)

pub unread_for : (c : Call) (reads : Bool) → reads ≡ false → c.left_after ≡ c.left → c.read_faults_after ≡ c.read_faults → IsReadFor reads c
unread_for c true is left faults = absurd (false_and_true true is refl)
unread_for c false is left faults = (left, faults)

-- some bytes, which are those that are told
told_bytes : (left : Option (List ℕ)) → (bytes : List ℕ) × IfSome left (λ all. bytes ≡ all)
told_bytes None = ([], tt)
told_bytes (Some bytes) = (bytes, refl)

-- what is done without a text is right for any bytes, and so for those that are told
right_where_told : (c : Call) (t : PureTask) (bytes : List ℕ) (o : PureOutput)
    → (reads_source t ≡ true → IfSome c.left (λ left. bytes ≡ left)) → IsRightOutput t bytes o → OfBytes c (λ all. IsRightOutput t all o)
right_where_told c (run language entry bound inputs) bytes o whole right = (bytes, whole refl, right)
right_where_told c (test language entry bound) bytes o whole right = (bytes, whole refl, right)
right_where_told c (check language bound) bytes o whole right = (bytes, whole refl, right)
right_where_told c (infer language entry bound) bytes o whole right = (bytes, whole refl, right)
right_where_told c (compile language) bytes o whole right = (bytes, whole refl, right)
right_where_told c solve bytes o whole right = (bytes, whole refl, right)
right_where_told c (sweep size) bytes o whole right = let told = told_bytes c.left in (told.0, told.1, right)

module _ (c : Call) (q : PureRequest) (asked : AskFor c.words q) (source : IsReadFor (reads_source q.task) c) (bytes : List ℕ)
    (whole : reads_source q.task ≡ true → IfSome c.left (λ left. bytes ≡ left)) where
  may_write_response : (status : Status) (text : List ℕ) → IsResponse q bytes status text → MayWrite c status text
  may_write_response status text (inl (r, refusal, is, says)) =
      let reads = reads_if_refused q.task bytes r refusal in
      let refuses : Refuses c text = record { refusal = r; written = says; right = (bytes, whole reads, (q, asked, refusal)) } in
      let read : IsRead c = read_of c (reads_source q.task) reads source in
      rw is (read, refuses)
  may_write_response status text (inr (output, right, writable, is, says)) =
      let told = right_where_told c q.task bytes output whole right in
      let reports : Reports c (output_status output) text = record {
        request = q;
        output = output;
        source = source;
        written = says;
        ends = refl;
        right = (told.0, told.1, (asked, told.2, writable));
      } in
      subst (λ s. MayWrite c s text) (sym is) (may_report c output text reports)

  pub ends_of_answer : (result : Status) → Answers q bytes (told_of c) result → Ends c result
  ends_of_answer result (inl w) = subst (Ends c) (sym w.0) (out_of_memory w.1)
  ends_of_answer result (inr (status, text, response, finishes)) = ends_of_finish c status result text (may_write_response status text response) finishes

-- as many bytes as were read are left
pub within_read : (left : Option (List ℕ)) (bytes : List ℕ) (most : ℕ) → IfSome left (λ all. bytes ≡ all) → length bytes ≤ most → IfSome left (λ all. length all ≤ most)
within_read left bytes most whole few = if_some_weaker left _ _ (λ all e. subst (λ bs. length bs ≤ most) e few) whole

never_too_large : (good : Bool) → (if good then Good else Found) ≡ TooLarge → ⊥
never_too_large true e = cc
never_too_large false e = cc

no_output_too_large : (output : PureOutput) → output_status output ≡ TooLarge → ⊥
no_output_too_large (a_report r) e = never_too_large (list_all is_good r.answers) e
no_output_too_large (a_program p) e = cc

-- an answer to a text is no refusal of its size
pub answer_not_too_large : (q : PureRequest) (bytes : List ℕ) (k : Told) (result : Status) → Answers q bytes k result → result ≡ TooLarge → ⊥
answer_not_too_large q bytes k result (inl w) e = let h = w.0 in cc
answer_not_too_large q bytes k result (inr (status, text, response, inr w)) e = let h = w.0 in cc
answer_not_too_large q bytes k result (inr (status, text, inl response, inl w)) e = let h = w.0 in let g = response.2 in cc
answer_not_too_large q bytes k result (inr (status, text, inr response, inl w)) e =
    no_output_too_large response.0 (sym response.3 ∙ sym w.0 ∙ e)

-- what is said of some bytes is said of those that the source tells
pub of_left : (c : Call) (P : List ℕ → Type 0) → OfBytes c P → IfSome c.left P
of_left c P (bytes, known, holds) = if_some_weaker c.left _ _ (λ left e. subst P e holds) known

-- what a sink that tells its bytes took more
appended : (taken taken_after : Option (List ℕ)) (before text : List ℕ) → taken ≡ Some before → Appends taken taken_after text → taken_after ≡ Some (before ++ text)
appended None taken_after before text is more = cc
appended (Some xs) None before text is more = absurd more
appended (Some xs) (Some ys) before text is more = ap Some (more ∙ ap (λ zs. zs ++ text) (same_Some xs before is))

reported : (left taken taken_after : Option (List ℕ)) (words : List (List ℕ)) (status : Status) (text : List ℕ) (q : PureRequest) (o : PureOutput)
    → text ≡ output_text q.json o → status ≡ output_status o → IfSome left (λ bytes. IsRight words bytes q o) → Appends taken taken_after text
    → IfSome left (λ bytes. IfSome taken (λ before. (r : PureRequest) × (p : PureOutput) × (taken_after ≡ Some (before ++ output_text r.json p))
    × IsRight words bytes r p × (status ≡ output_status p)))
reported None taken taken_after words status text q o says ends right e = tt
reported (Some bytes) None taken_after words status text q o says ends right e = tt
reported (Some bytes) (Some before) taken_after words status text q o says ends right e =
    (q, o, appended (Some before) taken_after before text refl e ∙ ap (λ t. Some (before ++ t)) says, right, ends)

by_reports : (c : Call) (status : Status) (text : List ℕ) (reports : Reports c status text) → Appends c.taken c.taken_after text
    → IfSome c.left (λ bytes. IfSome c.taken (λ before. (r : PureRequest) × (p : PureOutput) × (c.taken_after ≡ Some (before ++ output_text r.json p))
    × IsRight c.words bytes r p × (status ≡ output_status p)))
by_reports c status text reports e =
    reported c.left c.taken c.taken_after c.words status text reports.request reports.output reports.written reports.ends
    (of_left c (λ bytes. IsRight c.words bytes reports.request reports.output) reports.right) e

-- what is reported is right
pub right_if_reported : (c : Call) (result : Status) → Ends c result → IsReported result
    → IfSome c.left (λ bytes. IfSome c.taken (λ before. (r : PureRequest) × (p : PureOutput) × (c.taken_after ≡ Some (before ++ output_text r.json p))
    × IsRight c.words bytes r p × (result ≡ output_status p)))
right_if_reported c result (written Good text may e) h = by_reports c Good text may e
right_if_reported c result (written Found text may e) h = by_reports c Found text may e
right_if_reported c result (written Words text may e) (inl h) = cc
right_if_reported c result (written Words text may e) (inr h) = cc
right_if_reported c result (written Text text may e) (inl h) = cc
right_if_reported c result (written Text text may e) (inr h) = cc
right_if_reported c result (written TooLarge text may e) (inl h) = cc
right_if_reported c result (written TooLarge text may e) (inr h) = cc
right_if_reported c result (written ReadFault text may e) h = absurd may
right_if_reported c result (written WriteFault text may e) h = absurd may
right_if_reported c result (written Memory text may e) h = absurd may
right_if_reported c result (write_failed status text may rose part used) (inl h) = cc
right_if_reported c result (write_failed status text may rose part used) (inr h) = cc
right_if_reported c result (read_failed rose nothing) (inl h) = cc
right_if_reported c result (read_failed rose nothing) (inr h) = cc
right_if_reported c result (out_of_memory nothing) (inl h) = cc
right_if_reported c result (out_of_memory nothing) (inr h) = cc

refused : (left taken taken_after : Option (List ℕ)) (words : List (List ℕ)) (text : List ℕ) (r : Refused)
    → text ≡ refusal_line r → IfSome left (λ bytes. IsRefused words bytes r) → Appends taken taken_after text
    → IfSome left (λ bytes. IfSome taken (λ before. (q : Refused) × (taken_after ≡ Some (before ++ refusal_line q)) × IsRefused words bytes q))
refused None taken taken_after words text r says right e = tt
refused (Some bytes) None taken_after words text r says right e = tt
refused (Some bytes) (Some before) taken_after words text r says right e =
    (r, appended (Some before) taken_after before text refl e ∙ ap (λ t. Some (before ++ t)) says, right)

-- what is refused is no accepted text, and the refusal is right
pub refused_if_text : (c : Call) (result : Status) → Ends c result → result ≡ Text
    → IfSome c.left (λ bytes. IfSome c.taken (λ before. (q : Refused) × (c.taken_after ≡ Some (before ++ refusal_line q)) × IsRefused c.words bytes q))
refused_if_text c result (written Text text may e) h =
    refused c.left c.taken c.taken_after c.words text may.1.refusal may.1.written (of_left c (λ bytes. IsRefused c.words bytes may.1.refusal) may.1.right) e
refused_if_text c result (written Good text may e) h = cc
refused_if_text c result (written Found text may e) h = cc
refused_if_text c result (written Words text may e) h = cc
refused_if_text c result (written TooLarge text may e) h = cc
refused_if_text c result (written ReadFault text may e) h = absurd may
refused_if_text c result (written WriteFault text may e) h = absurd may
refused_if_text c result (written Memory text may e) h = absurd may
refused_if_text c result (write_failed status text may rose part used) h = cc
refused_if_text c result (read_failed rose nothing) h = cc
refused_if_text c result (out_of_memory nothing) h = cc

-- where an output or a refusal of something that is done with a text is written, the source was read to its end
module _ (c : Call) (once : (a b : PureRequest) → AskFor c.words a → AskFor c.words b → a ≡ b) (q : PureRequest) (asked : AskFor c.words q)
    (reads : reads_source q.task ≡ true) where
  read_if_reported : (status : Status) (text : List ℕ) → Reports c status text → IsAtEnd c.left_after
  read_if_reported status text reports =
      let same : q ≡ reports.request = once q reports.request asked reports.right.2.0 in
      (read_of c (reads_source reports.request.task) (subst (λ r. reads_source r.task ≡ true) same reads) reports.source).end

  pub read_if_answered : (result : Status) → Ends c result → IsReported result ⊎ (result ≡ Text) → IsAtEnd c.left_after
  read_if_answered result (written Good text may e) h = read_if_reported Good text may
  read_if_answered result (written Found text may e) h = read_if_reported Found text may
  read_if_answered result (written Text text may e) h = may.0.end
  read_if_answered result (written Words text may e) (inl (inl h)) = cc
  read_if_answered result (written Words text may e) (inl (inr h)) = cc
  read_if_answered result (written Words text may e) (inr h) = cc
  read_if_answered result (written TooLarge text may e) (inl (inl h)) = cc
  read_if_answered result (written TooLarge text may e) (inl (inr h)) = cc
  read_if_answered result (written TooLarge text may e) (inr h) = cc
  read_if_answered result (written ReadFault text may e) h = absurd may
  read_if_answered result (written WriteFault text may e) h = absurd may
  read_if_answered result (written Memory text may e) h = absurd may
  read_if_answered result (write_failed status text may rose part used) (inl (inl h)) = cc
  read_if_answered result (write_failed status text may rose part used) (inl (inr h)) = cc
  read_if_answered result (write_failed status text may rose part used) (inr h) = cc
  read_if_answered result (read_failed rose nothing) (inl (inl h)) = cc
  read_if_answered result (read_failed rose nothing) (inl (inr h)) = cc
  read_if_answered result (read_failed rose nothing) (inr h) = cc
  read_if_answered result (out_of_memory nothing) (inl (inl h)) = cc
  read_if_answered result (out_of_memory nothing) (inl (inr h)) = cc
  read_if_answered result (out_of_memory nothing) (inr h) = cc

-- with a fault of the source, and where memory runs out, nothing is written
pub nothing_written : (c : Call) (result : Status) → Ends c result → (result ≡ ReadFault) ⊎ (result ≡ Memory) → c.taken_after ≡ c.taken
nothing_written c result (read_failed rose nothing) h = nothing
nothing_written c result (out_of_memory nothing) h = nothing
nothing_written c result (write_failed status text may rose part used) (inl h) = cc
nothing_written c result (write_failed status text may rose part used) (inr h) = cc
nothing_written c result (written Good text may e) (inl h) = cc
nothing_written c result (written Good text may e) (inr h) = cc
nothing_written c result (written Found text may e) (inl h) = cc
nothing_written c result (written Found text may e) (inr h) = cc
nothing_written c result (written Words text may e) (inl h) = cc
nothing_written c result (written Words text may e) (inr h) = cc
nothing_written c result (written Text text may e) (inl h) = cc
nothing_written c result (written Text text may e) (inr h) = cc
nothing_written c result (written TooLarge text may e) (inl h) = cc
nothing_written c result (written TooLarge text may e) (inr h) = cc
nothing_written c result (written ReadFault text may e) h = absurd may
nothing_written c result (written WriteFault text may e) h = absurd may
nothing_written c result (written Memory text may e) h = absurd may

-- the usage line is written only where the words don't fit
pub unfit_if_words : (c : Call) (result : Status) → Ends c result → result ≡ Words → WordsFit c.words → ⊥
unfit_if_words c result (written Words text may e) h fit = may.0 fit
unfit_if_words c result (written Good text may e) h fit = cc
unfit_if_words c result (written Found text may e) h fit = cc
unfit_if_words c result (written Text text may e) h fit = cc
unfit_if_words c result (written TooLarge text may e) h fit = cc
unfit_if_words c result (written ReadFault text may e) h fit = absurd may
unfit_if_words c result (written WriteFault text may e) h fit = absurd may
unfit_if_words c result (written Memory text may e) h fit = absurd may
unfit_if_words c result (write_failed status text may rose part used) h fit = cc
unfit_if_words c result (read_failed rose nothing) h fit = cc
unfit_if_words c result (out_of_memory nothing) h fit = cc

-- a fault of the sink says that its room is used up, where it tells that
pub used_up_if_failed : (c : Call) (result : Status) → Ends c result → result ≡ WriteFault → IsUsedUp c.room c.taken_after
used_up_if_failed c result (write_failed status text may rose part used) h = used
used_up_if_failed c result (read_failed rose nothing) h = cc
used_up_if_failed c result (out_of_memory nothing) h = cc
used_up_if_failed c result (written Good text may e) h = cc
used_up_if_failed c result (written Found text may e) h = cc
used_up_if_failed c result (written Words text may e) h = cc
used_up_if_failed c result (written Text text may e) h = cc
used_up_if_failed c result (written TooLarge text may e) h = cc
used_up_if_failed c result (written ReadFault text may e) h = absurd may
used_up_if_failed c result (written WriteFault text may e) h = absurd may
used_up_if_failed c result (written Memory text may e) h = absurd may

-- what was given is no longer than what there was
not_longer : (left after : Option (List ℕ)) (bytes gave : List ℕ) → left ≡ Some bytes → Consumes left after gave → length gave ≤ length bytes
not_longer None after bytes gave is given = cc
not_longer (Some xs) None bytes gave is given = absurd given
not_longer (Some xs) (Some ys) bytes gave is given =
    let counted = ap length (sym (same_Some xs bytes is) ∙ given) ∙ length-append gave ys in omega (arith, counted)

module _ (c : Call) (once : (a b : PureRequest) → AskFor c.words a → AskFor c.words b → a ≡ b) (q : PureRequest) (asked : AskFor c.words q) (bytes : List ℕ)
    (left : c.left ≡ Some bytes) (accepted : IsAccepted q.task bytes) (short : length bytes ≤ most_bytes) (no_fault : FaultRose c.read_faults c.read_faults_after → ⊥) where
  not_refused : (r : Refused) → IfSome c.left (λ bs. IsRefused c.words bs r) → ⊥
  not_refused r known =
      let refused = subst (λ o. IfSome o (λ bs. IsRefused c.words bs r)) left known in
      (subst (λ u. IsRefusal u.task bytes r) (once refused.0 q refused.1 asked) refused.2).not_accepted accepted

  not_too_large : Takes c.left c.left_after (λ gave. most_bytes < length gave) → ⊥
  not_too_large takes = let few = not_longer c.left c.left_after bytes takes.0 left takes.1 in omega (arith, few, short, takes.2)

  -- an accepted text is answered, faults of the sink and want of memory aside
  pub answered_if_accepted : (result : Status) → Ends c result → IsReported result ⊎ (result ≡ WriteFault) ⊎ (result ≡ Memory)
  answered_if_accepted result (written Good text may e) = inl (inl refl)
  answered_if_accepted result (written Found text may e) = inl (inr refl)
  answered_if_accepted result (written Words text may e) = absurd (may.0 (q, asked))
  answered_if_accepted result (written Text text may e) =
      absurd (not_refused may.1.refusal (of_left c (λ bs. IsRefused c.words bs may.1.refusal) may.1.right))
  answered_if_accepted result (written TooLarge text may e) = absurd (not_too_large may.1)
  answered_if_accepted result (written ReadFault text may e) = absurd may
  answered_if_accepted result (written WriteFault text may e) = absurd may
  answered_if_accepted result (written Memory text may e) = absurd may
  answered_if_accepted result (write_failed status text may rose part used) = inr (inl refl)
  answered_if_accepted result (read_failed rose nothing) = absurd (no_fault rose)
  answered_if_accepted result (out_of_memory nothing) = inr (inr refl)

-- the same of the bytes that the source tells
pub answered_where_told : (c : Call) → ((a b : PureRequest) → AskFor c.words a → AskFor c.words b → a ≡ b) → (result : Status) → Ends c result
    → (q : PureRequest) → AskFor c.words q → IfSome c.left (λ bytes. IsAccepted q.task bytes → length bytes ≤ most_bytes
    → (FaultRose c.read_faults c.read_faults_after → ⊥) → IsReported result ⊎ (result ≡ WriteFault) ⊎ (result ≡ Memory))
answered_where_told c once result ends q asked = by c.left refl
  where
    by : (left : Option (List ℕ)) → c.left ≡ left → IfSome left (λ bytes. IsAccepted q.task bytes → length bytes ≤ most_bytes
        → (FaultRose c.read_faults c.read_faults_after → ⊥) → IsReported result ⊎ (result ≡ WriteFault) ⊎ (result ≡ Memory))
    by None is = tt
    by (Some bytes) is = λ accepted short no_fault. answered_if_accepted c once q asked bytes is accepted short no_fault result ends

-- ---- what is done without a text

pub consumes_nothing : (left : Option (List ℕ)) → Consumes left left []
consumes_nothing None = tt
consumes_nothing (Some bytes) = refl

-- an output is written with one of two statuses
output_reported : (good : Bool) → IsReported (if good then Good else Found)
output_reported true = inl refl
output_reported false = inr refl

status_reported : (o : PureOutput) → IsReported (output_status o)
status_reported (a_report r) = output_reported (list_all is_good r.answers)
status_reported (a_program p) = inl refl

pub unread_answered : (q : PureRequest) (bytes : List ℕ) (k : Told) (result : Status) → reads_source q.task ≡ false → Answers q bytes k result
    → IsReported result ⊎ (result ≡ WriteFault) ⊎ (result ≡ Memory)
unread_answered q bytes k result unread (inl w) = inr (inr w.0)
unread_answered q bytes k result unread (inr (status, text, inl response, finishes)) =
    absurd (false_and_true (reads_source q.task) unread (reads_if_refused q.task bytes response.0 response.1))
unread_answered q bytes k result unread (inr (status, text, inr response, inl w)) =
    inl (subst IsReported (sym (w.0 ∙ response.3)) (status_reported response.0))
unread_answered q bytes k result unread (inr (status, text, inr response, inr w)) = inr (inl w.0)

-- words that ask for something that is done with a text ask for nothing that is done without
pub never_unread : (words : List (List ℕ)) → ((a b : PureRequest) → AskFor words a → AskFor words b → a ≡ b) → (q : PureRequest) → AskFor words q
    → reads_source q.task ≡ true → (r : PureRequest) → AskFor words r → reads_source r.task ≡ false → ⊥
never_unread words once q asked reads r other unread =
    false_and_true (reads_source r.task) unread (subst (λ a. reads_source a.task ≡ true) (once q r asked other) reads)
