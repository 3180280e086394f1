-- Refusals, calls and replies as scripts and answer lines write them, in bytes. Assumes nothing.
use Rattle.std.specs.Prelude.{ℕ, List, ◌++◌, Option, Some, codes}
use Rattle.std.specs.Fmt.{◌++?◌, decimal}
use Rattle.rules.specs.declared.calls.Call.{Call}
use Rattle.rules.specs.declared.calls.Call.TheVariants.{Begin, Post, Keep, Publish, Abandon, Value}
use Rattle.rules.specs.declared.calls.Reply.{Reply}
use Rattle.rules.specs.declared.calls.Reply.TheVariants as replies
use Rattle.rules.specs.declared.refusals.Refusal.{Refusal}
use Rattle.rules.specs.Refusals.{number_of, holder_of}

-- the number of the question, then the holder
abbrev pub refusal_text : Refusal → List ℕ
refusal_text refusal = codes "(turned " ++ (decimal (number_of refusal) ++ (codes " " ++ (decimal (holder_of refusal) ++ codes ")")))

-- A posting, a value and an answer write themselves, and where one of them does not say which bytes it writes, neither does what
-- holds it.
abbrev pub call_text : {P : Type 0} → (P → Option (List ℕ)) → Call P → Option (List ℕ)
call_text posting_text (Begin q) = Some (codes "(begin " ++ (decimal q ++ codes ")"))
call_text posting_text (Post e c p) = Some (codes "(post " ++ (decimal e ++ (codes " " ++ (decimal c ++ codes " ")))) ++? (posting_text p ++? Some (codes ")"))
call_text posting_text (Keep e) = Some (codes "(keep " ++ (decimal e ++ codes ")"))
call_text posting_text (Publish e) = Some (codes "(publish " ++ (decimal e ++ codes ")"))
call_text posting_text (Abandon e) = Some (codes "(abandon " ++ (decimal e ++ codes ")"))
call_text posting_text (Value c) = Some (codes "(value " ++ (decimal c ++ codes ")"))

abbrev pub reply_text : {V O : Type 0} → (V → Option (List ℕ)) → (O → Option (List ℕ)) → Reply V O → Option (List ℕ)
reply_text value_text answer_text (replies.Entry n) = Some (codes "(entry " ++ (decimal n ++ codes ")"))
reply_text value_text answer_text (replies.Posted a) = answer_text a
reply_text value_text answer_text replies.Done = Some (codes "(done)")
reply_text value_text answer_text (replies.Value v) = Some (codes "(value ") ++? (value_text v ++? Some (codes ")"))
