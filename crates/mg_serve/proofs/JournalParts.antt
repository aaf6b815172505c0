-- The moments of a session's trace, counted from its last successful renewal.
use Rattle.std.proofs.Common.{◌≡◌, ◌≢◌, ◌⊎◌, inl, inr, ℕ, ◌+◌, ◌<◌, ◌^◌, Bool, true, false, eqb, List, [], ◌∷◌, ◌++◌, length, length-append, ◌≤◌, All, decimal, Option, Some, None, IfSome, Ok, refl, sym, ap, subst, ◌∙◌, append_assoc, append-nil, codes, arith}
use Rattle.std.specs.List.{list_all}
use Rattle.std.proofs.lemmas.Bool.{and_parts, eq-eqb, not-true, true≢false}
use Rattle.std.proofs.lemmas.Fmt.{decimal_is_IsNumeral, length-decimal-le}
use Rattle.std.proofs.lemmas.List.Elements.{All-append, All-cons, All-nil, All-tail}
use Rattle.std.proofs.lemmas.Str.Parse.{digit_from_value}
use Rattle.std.specs.Option.{option_map}
use Rattle.std.specs.Str.Parse.{AllDigits}
use Rattle.mg_journal.specs.declared.durability.Durability.{Durability}
use Rattle.mg_journal.specs.Journal.{JournalState, renewed, text_to_seal}
use Rattle.mg_lines.specs.Lines.{lines_after}
use Rattle.hex.specs.Hex.{encode_lower, lower_digits}
use Rattle.hex.proofs.HexLemmas.{length-encode_with}
use Rattle.sha2.specs.Sha256.{sha256}
use Rattle.sha2.proofs.Facts256.{length-sha256}
use Rattle.mg_chain.specs.Seals.{IsFollowing, is_seal}
use Rattle.mg_chain.proofs.SealLemmas.{seal_line}
use Rattle.mg_core.specs.declared.event.Event.{Event}
use Rattle.mg_core.specs.Recording.{Noted, RecordingsAreRead}
use Rattle.mg_core.specs.Step.{Sent, Run}
use Rattle.mg_core.specs.World.{World}
use Rattle.mg_core.proofs.ReadBackLemmas.{is_not}
use Rattle.mg_checkpoint.specs.Checkpoint.{checkpoint_text}
use Rattle.mg_ports.specs.declared.call.Call.{Call}
use Rattle.mg_ports.specs.declared.call.Call.TheVariants.{Renew}
use Rattle.mg_ports.specs.Journaled.{IsComment, JournalAfter}
use Rattle.mg_serve.specs.Fenced.{reached_line}
use Rattle.mg_serve.specs.Journaled.{Progress, Lacks, Announces, Advances, IsJournaled, Journals}
use Rattle.mg_serve.specs.JournalLaws.{EachPartIsAMoment, IsJournalOf, IsMoment, IsRenewed, TellsEvents}
use Rattle.mg_serve.specs.Renewal.{renewal_text}
use Rattle.mg_serve.specs.Session.{Performs, Session}
use Rattle.mg_serve.specs.Setup.{Setup}
use Rattle.mg_serve.specs.Theorems.{SessionsAreRuns}
use Rattle.mg_serve.specs.declared.command.Command.{Command}
use Rattle.mg_serve.specs.Trace.{TraceEntry, Called, calls_of, events_of_trace}
use Rattle.mg_serve.proofs.JournalRenewals.{IsRenewal, RenewsLast, Stays, does_renew, stay_as, stay_both}
use Rattle.mg_serve.proofs.JournalSteps.{after_parts, journals_parts, unrenewed_parts}
use Rattle.mg_serve.proofs.JournalText.{IsScriptFrom, entry_script, marked, no_text, noted, script_more, stays_marked}
use Rattle.mg_serve.proofs.Printing.{calls_both}
use Rattle.mg_serve.proofs.Runs.{events_both}

-- ## Two ways to split a trace

abbrev Apart : (a b c d : List TraceEntry) → Type 0
Apart a b c d =
    ((x : List TraceEntry) × (a ≡ c ++ x) × (d ≡ x ++ b)) ⊎ ((y : List TraceEntry) × (c ≡ a ++ y) × (b ≡ y ++ d))

apart_more : (e f : TraceEntry) (a b c d : List TraceEntry) → e ≡ f → Apart a b c d → Apart (e ∷ a) b (f ∷ c) d
apart_more e f a b c d same (inl (x, is, left)) =
    inl (x, ap (λ (l : List TraceEntry). e ∷ l) is ∙ ap (λ (g : TraceEntry). g ∷ (c ++ x)) same, left)
apart_more e f a b c d same (inr (y, is, left)) =
    inr (y, ap (λ (l : List TraceEntry). f ∷ l) is ∙ ap (λ (g : TraceEntry). g ∷ (a ++ y)) (sym same), left)

apart : (a b c d : List TraceEntry) → a ++ b ≡ c ++ d → Apart a b c d
apart [] b c d is = inr (c, refl, is)
apart (e ∷ a) b [] d is = inl (e ∷ a, refl, sym is)
apart (e ∷ a) b (f ∷ c) d is =
    let same : e ≡ f = cc in
    let left : a ++ b ≡ c ++ d = cc in
    apart_more e f a b c d same (apart a b c d left)

-- A prefix of a list with one entry is empty, or is the list.
one_front : (e : TraceEntry) (z x : List TraceEntry) → e ∷ [] ≡ z ++ x → (z ≡ []) ⊎ ((z ≡ e ∷ []) × (x ≡ []))
one_front e [] x is = inl refl
one_front e (f ∷ []) x is =
    let same : e ≡ f = cc in
    let none : [] ≡ x = cc in
    inr (ap (λ (g : TraceEntry). g ∷ []) (sym same), sym none)
one_front e (f ∷ g ∷ z) x is =
    let none : List TraceEntry = [] in
    let left : none ≡ g ∷ (z ++ x) = cc in
    absurd cc

none_front : (front rest : List TraceEntry) → [] ≡ front ++ rest → front ≡ []
none_front [] rest is = refl
none_front (e ∷ front) rest is =
    let none : List TraceEntry = [] in
    let wrong : none ≡ e ∷ (front ++ rest) = is in
    absurd cc

-- ## The last renewal in a session

-- The prefix consists of the trace of a session that ends with the prefix's last successful renewal, and the first
-- entries of a session that starts there.
pub record IsSplit (setup : Setup) (w : World) (front rest : List TraceEntry) (last : World) : Type 0 where
  pub start : World
  pub before : List Command
  pub others : List Command
  pub earlier : List TraceEntry
  pub renewal : TraceEntry
  pub since : List TraceEntry
  pub parts : front ≡ earlier ++ renewal ∷ since
  pub renews : IsRenewal setup start renewal
  pub stays : Stays since
  pub first : Session setup before w (earlier ++ renewal ∷ []) start
  pub second : Session setup others start (since ++ rest) last

abbrev Splits : Setup → World → (front rest : List TraceEntry) → World → Type 0
Splits setup w front rest last = Stays front ⊎ IsSplit setup w front rest last

one_command : (setup : Setup) (c : Command) (w mid : World) (p q : List TraceEntry) → p ≡ q → Performs setup c w p mid →
    Session setup (c ∷ []) w q mid
one_command setup c w mid p q is h =
    (q, [], mid, sym (append-nil q), subst (λ (l : List TraceEntry). Performs setup c w l mid) is h, (refl, refl))

-- The command is over before the prefix ends.
split_after : (setup : Setup) (c : Command) (cs : List Command) (w mid last : World) (p q front y rest : List TraceEntry) →
    Performs setup c w p mid → Session setup cs mid q last → RenewsLast setup mid p → front ≡ p ++ y → q ≡ y ++ rest →
    Splits setup mid y rest last → Splits setup w front rest last
split_after setup c cs w mid last p q front y rest h more renews is left (inr s) = inr (record {
  start = s.start;
  before = c ∷ s.before;
  others = s.others;
  earlier = p ++ s.earlier;
  renewal = s.renewal;
  since = s.since;
  parts = is ∙ (ap (λ (l : List TraceEntry). p ++ l) s.parts ∙ sym (append_assoc p s.earlier (s.renewal ∷ s.since)));
  renews = s.renews;
  stays = s.stays;
  first = (p, s.earlier ++ s.renewal ∷ [], mid, append_assoc p s.earlier (s.renewal ∷ []), h, s.first);
  second = s.second;
})
split_after setup c cs w mid last p q front y rest h more (inl stays) is left (inl later) =
    inl (stay_as front (p ++ y) is (stay_both p y stays later))
split_after setup c cs w mid last p q front y rest h more (inr (f, renewal, ends, stays, renews)) is left (inl later) =
    inr (record {
      start = mid;
      before = c ∷ [];
      others = cs;
      earlier = f;
      renewal = renewal;
      since = y;
      parts = is ∙ (ap (λ (l : List TraceEntry). l ++ y) ends ∙ append_assoc f (renewal ∷ []) y);
      renews = renews;
      stays = later;
      first = one_command setup c w mid p (f ++ renewal ∷ []) ends h;
      second = subst (λ (l : List TraceEntry). Session setup cs mid l last) left more;
    })

-- The prefix ends with the command's last entry.
split_at : (setup : Setup) (c : Command) (cs : List Command) (w mid last : World) (p q front x rest f z : List TraceEntry)
    (renewal : TraceEntry) → Performs setup c w p mid → Session setup cs mid q last → p ≡ f ++ renewal ∷ [] → Stays f →
    IsRenewal setup mid renewal → rest ≡ x ++ q → front ≡ f ++ z → (z ≡ []) ⊎ ((z ≡ renewal ∷ []) × (x ≡ [])) →
    Splits setup w front rest last
split_at setup c cs w mid last p q front x rest f z renewal h more ends stays renews left is (inl none) =
    inl (stay_as front f (is ∙ (ap (λ (l : List TraceEntry). f ++ l) none ∙ append-nil f)) stays)
split_at setup c cs w mid last p q front x rest f z renewal h more ends stays renews left is (inr (one, none)) = inr (record {
  start = mid;
  before = c ∷ [];
  others = cs;
  earlier = f;
  renewal = renewal;
  since = [];
  parts = is ∙ ap (λ (l : List TraceEntry). f ++ l) one;
  renews = renews;
  stays = refl;
  first = one_command setup c w mid p (f ++ renewal ∷ []) ends h;
  second = subst (λ (l : List TraceEntry). Session setup cs mid l last)
      (sym (left ∙ ap (λ (l : List TraceEntry). l ++ q) none)) more;
})

-- The prefix ends within the command's trace.
split_within : (setup : Setup) (c : Command) (cs : List Command) (w mid last : World) (p q front x rest : List TraceEntry) →
    Performs setup c w p mid → Session setup cs mid q last → RenewsLast setup mid p → p ≡ front ++ x → rest ≡ x ++ q →
    Splits setup w front rest last
split_within setup c cs w mid last p q front x rest h more (inl stays) is left =
    inl (unrenewed_parts front x (stay_as (front ++ x) p (sym is) stays)).0
split_within setup c cs w mid last p q front x rest h more (inr (f, renewal, ends, stays, renews)) is left =
    within (apart f (renewal ∷ []) front x (sym ends ∙ is))
  where
    within : Apart f (renewal ∷ []) front x → Splits setup w front rest last
    within (inl (z, parts, end)) = inl (unrenewed_parts front z (stay_as (front ++ z) f (sym parts) stays)).0
    within (inr (z, parts, end)) =
        split_at setup c cs w mid last p q front x rest f z renewal h more ends stays renews left parts (one_front renewal z x end)

split_by : (setup : Setup) (c : Command) (cs : List Command) (w mid last : World) (p q front rest : List TraceEntry) →
    Performs setup c w p mid → Session setup cs mid q last →
    ((y : List TraceEntry) → q ≡ y ++ rest → Splits setup mid y rest last) → Apart p q front rest →
    Splits setup w front rest last
split_by setup c cs w mid last p q front rest h more later (inl (x, is, left)) =
    split_within setup c cs w mid last p q front x rest h more (does_renew setup c w mid p h) is left
split_by setup c cs w mid last p q front rest h more later (inr (y, is, left)) =
    split_after setup c cs w mid last p q front y rest h more (does_renew setup c w mid p h) is left (later y left)

pub split : (setup : Setup) (list : List Command) (w last : World) (trace front rest : List TraceEntry) → trace ≡ front ++ rest →
    Session setup list w trace last → Splits setup w front rest last
split setup [] w last trace front rest is (none, same) =
    inl (stay_as front [] (none_front front rest (sym none ∙ is)) refl)
split setup (c ∷ cs) w last trace front rest is (p, q, mid, parts, h, more) =
    split_by setup c cs w mid last p q front rest h more
    (λ y left. split setup cs mid last q y rest left more) (apart p q front rest (sym parts ∙ is))

-- ## The text of a renewed journal

plain_byte : (b : ℕ) → is_not 10 b ≡ true → b ≢ 10
plain_byte b h e = true≢false (sym (eq-eqb b 10 e) ∙ not-true (eqb b 10) h)

all_plain : (text : List ℕ) → list_all (is_not 10) text ≡ true → All (λ b. b ≢ 10) text
all_plain [] h = All-nil (λ b. b ≢ 10)
all_plain (b ∷ bs) h =
    let two = and_parts (is_not 10 b) (list_all (is_not 10) bs) h in
    All-cons (λ b. b ≢ 10) b bs (plain_byte b two.0) (all_plain bs two.1)

digits_plain : (ds : List ℕ) → AllDigits 10 ds → All (λ b. b ≢ 10) ds
digits_plain [] h = All-nil (λ b. b ≢ 10)
digits_plain (d ∷ ds) h =
    All-cons (λ b. b ≢ 10) d ds (λ e. omega (arith, digit_from_value d h.0, e)) (digits_plain ds h.1)

abbrev mark : List ℕ
mark = codes "# counted ticks\n"

marks : marked mark ≡ true
unfolding lines_after
marks = refl

mark_script : RecordingsAreRead → IsScriptFrom false mark []
mark_script law = entry_script law false (Noted (codes "counted ticks")) (omega arith, all_plain (codes "counted ticks") refl)

reached_script : RecordingsAreRead → (reached : ℕ) → reached < 2 ^ 32 → IsScriptFrom true (reached_line reached) []
reached_script law reached fits =
    let small : reached < 2 ^ 64 = omega (arith, fits) in
    let text = codes "reached " ++ decimal reached in
    let comment = codes "# " ++ (text ++ codes "\n") in
    let parts : comment ++ [] ≡ reached_line reached =
    append-nil comment ∙ ap (λ (l : List ℕ). codes "# " ++ l) (append_assoc (codes "reached ") (decimal reached) (codes "\n")) in
    subst (λ (l : List ℕ). IsScriptFrom true l []) parts
    (noted law text comment [] [] refl
    (omega (
      arith,
      length-append (codes "reached ") (decimal reached),
      length-decimal-le 20 reached (omega arith) (omega arith) small,
    ))
    (All-append (λ b. b ≢ 10) (codes "reached ") (decimal reached) (all_plain (codes "reached ") refl)
    (digits_plain (decimal reached) (decimal_is_IsNumeral reached small).0.1)) no_text)

comment_script : RecordingsAreRead → (comment : List ℕ) → (comment ≡ []) ⊎ (IsComment comment × (is_seal comment ≡ false))
    → IsScriptFrom true comment []
comment_script law comment (inl none) = subst (λ (l : List ℕ). IsScriptFrom true l []) (sym none) no_text
comment_script law comment (inr ((text, line, short, plain), other)) =
    subst (λ (l : List ℕ). IsScriptFrom true l []) (append-nil comment) (noted law text comment [] [] line short plain no_text)

all_after : (p q : List ℕ) → All (λ b. b ≢ 10) (p ++ q) → All (λ b. b ≢ 10) q
all_after [] q all = all
all_after (b ∷ p) q all = all_after p q (All-tail (λ b. b ≢ 10) b (p ++ q) all)

abbrev hash : List ℕ → List ℕ
hash part = encode_lower (sha256 part)

hash_length : (part : List ℕ) → length (hash part) ≤ 64
hash_length part = omega (arith, length-encode_with lower_digits (sha256 part), length-sha256 part)

-- The line that says which journal the text follows is a script without events.
follows_script : RecordingsAreRead → (known : Option (List ℕ)) (follows : List ℕ) → IsFollowing known follows
    → IsScriptFrom true follows []
follows_script law known follows (end, (part, ends, is), line) =
    let text = codes "follows " ++ hash part in
    let parts : follows ≡ codes "# " ++ (text ++ codes "\n") =
    line ∙ (ap (λ (l : List ℕ). codes "# follows " ++ l) ends
    ∙ ap (λ (l : List ℕ). codes "# " ++ l) (sym (append_assoc (codes "follows ") (hash part) (codes "\n")))) in
    subst (λ (l : List ℕ). IsScriptFrom true l []) (append-nil follows)
    (noted law text follows [] [] parts (omega (arith, length-append (codes "follows ") (hash part), hash_length part))
    (All-append (λ b. b ≢ 10) (codes "follows ") (hash part) (all_plain (codes "follows ") refl)
    (all_after (codes "sha256 ") (hash part) (seal_line part).2)) no_text)

-- Right after a renewal, the text is the head, the checkpoint and a script without events.
renewal_tells : RecordingsAreRead → (known : Option (List ℕ)) (head checkpoint follows comment : List ℕ) (reached : ℕ)
    → reached < 2 ^ 32 → IsFollowing known follows → (comment ≡ []) ⊎ (IsComment comment × (is_seal comment ≡ false))
    → IsJournalOf (head ++ checkpoint) (renewal_text head checkpoint reached ++ (follows ++ comment)) []
renewal_tells law known head checkpoint follows comment reached fits follow dated =
    let tail = reached_line reached ++ (follows ++ comment) in
    let script : IsScriptFrom true tail [] =
    script_more true (reached_line reached) (follows ++ comment) [] [] (reached_script law reached fits)
    (script_more true follows comment [] [] (follows_script law known follows follow) (comment_script law comment dated)) in (
      mark ++ tail,
      simp append_assoc,
      script_more false mark tail [] [] (mark_script law) (subst (λ (b : Bool). IsScriptFrom b tail []) (sym marks) script),
      stays_marked mark tail (mark_script law).0 marks,
    )

renewed_tells : RecordingsAreRead → (known : Option (List ℕ)) (head checkpoint follows comment : List ℕ) (reached : ℕ)
    (how : Durability) (old new : JournalState) → reached < 2 ^ 32 → IsFollowing known follows
    → (comment ≡ []) ⊎ (IsComment comment × (is_seal comment ≡ false))
    → new ≡ renewed (renewal_text head checkpoint reached ++ (follows ++ comment)) how old → TellsEvents (head ++ checkpoint) new []
renewed_tells law seen head checkpoint follows comment reached how old new fits follow dated is =
    subst (λ (j : JournalState). TellsEvents (head ++ checkpoint) j []) (sym is) (known old.text)
  where
    known : (o : Option (List ℕ)) → IfSome (option_map (λ (before : List ℕ). renewal_text head checkpoint reached ++ (follows ++ comment)) o)
        (λ text. IsJournalOf (head ++ checkpoint) text [])
    known None = tt
    known (Some before) = renewal_tells law seen head checkpoint follows comment reached fits follow dated

-- ## Moments

-- After a renewal, the journal lacks nothing.
renewal_advances : (durability how : Durability) (text : List ℕ) (old next : Progress)
    → Advances durability old (Called (Renew text how (Ok tt))) next → next ≡ Lacks 0
renewal_advances durability how text (Lacks n) next step = step.1
renewal_advances durability how text (Announces source bytes) next step = absurd cc (step.0)

-- The ticks that the journal lacks are counted from the renewal.
journals_since : (durability how : Durability) (text : List ℕ) (earlier others : List TraceEntry) (last : Progress)
    → Journals durability (Lacks 0) (earlier ++ Called (Renew text how (Ok tt)) ∷ others) last
    → Journals durability (Lacks 0) others last
journals_since durability how text earlier others last js =
    let (mid, before, (next, step, after)) =
    journals_parts durability (Lacks 0) last earlier (Called (Renew text how (Ok tt)) ∷ others) js in
    subst (λ (p : Progress). Journals durability p others last) (renewal_advances durability how text mid next step) after

journaled_since : (d : Option Durability) (durability how : Durability) (text : List ℕ) (earlier others : List TraceEntry)
    (lacking : ℕ) → d ≡ Some durability
    → IsJournaled d 0 (earlier ++ Called (Renew text how (Ok tt)) ∷ others) lacking → IsJournaled d 0 others lacking
journaled_since None durability how text earlier others lacking has js = absurd cc
journaled_since (Some durable) durability how text earlier others lacking has js =
    journals_since durable how text earlier others (Lacks lacking) js

run_before : SessionsAreRuns → (setup : Setup) (list : List Command) (w start : World) (earlier : List TraceEntry) (call : Call)
    → Session setup list w (earlier ++ Called call ∷ []) start
    → (sent : List Sent) × Run w (events_of_trace earlier) sent start
run_before runs setup list w start earlier call session =
    let ran = runs setup list w start (earlier ++ Called call ∷ []) session in (
      ran.sent,
      subst (λ (l : List Event). Run w l ran.sent start)
          (events_both earlier (Called call ∷ []) ∙ append-nil (events_of_trace earlier)) ran.run,
    )

abbrev begun : Setup → World → List ℕ
begun setup start = setup.head ++ checkpoint_text start

renewed_moment : RecordingsAreRead → SessionsAreRuns → (setup : Setup) (durability : Durability) (w last : World)
    (front rest : List TraceEntry) (lacking : ℕ) (old journal : JournalState) → setup.journal ≡ Some durability
    → IsJournaled setup.journal 0 (front ++ rest) lacking → JournalAfter (calls_of front) old journal
    → (s : IsSplit setup w front rest last) → IsRenewed setup w front s.start s.since
    × IsMoment setup durability (begun setup s.start) s.start [] s.since rest journal
renewed_moment read runs setup durability w last front rest lacking old journal has lacks after s =
    let how = s.renews.durability in
    let text = renewal_text setup.head (checkpoint_text s.start) s.renews.reached in
    let call = Renew text how (Ok tt) in
    let parts : front ≡ s.earlier ++ Called call ∷ s.since =
    s.parts ∙ ap (λ (e : TraceEntry). s.earlier ++ e ∷ s.since) s.renews.is in
    let (mid, early, (start, (follows, comment, follow, dated, is), since)) =
    after_parts (calls_of s.earlier) (call ∷ calls_of s.since) old journal
    (subst (λ (l : List Call). JournalAfter l old journal)
    (ap calls_of parts ∙ calls_both s.earlier (Called call ∷ s.since)) after) in
    let (sent, run) =
    run_before runs setup s.before w s.start s.earlier call
    (subst (λ (e : TraceEntry). Session setup s.before w (s.earlier ++ e ∷ []) s.start) s.renews.is s.first) in (
      record {
        earlier = s.earlier;
        durability = how;
        reached = s.renews.reached;
        parts = parts;
        sent = sent;
        run = run;
      },
      record {
        commands = s.others;
        last = last;
        lacking = lacking;
        start = start;
        has = has;
        session = s.second;
        lacks = journaled_since setup.journal durability how text s.earlier (s.since ++ rest) lacking has
            (subst (λ (l : List TraceEntry). IsJournaled setup.journal 0 l lacking)
            (ap (λ (l : List TraceEntry). l ++ rest) parts ∙ append_assoc s.earlier (Called call ∷ s.since) rest) lacks);
        tells = renewed_tells read (text_to_seal mid) setup.head (checkpoint_text s.start) follows comment s.renews.reached how
            mid start s.renews.fits follow dated is;
        unrenewed = s.stays;
        after = since;
      },
    )

moment_in : RecordingsAreRead → SessionsAreRuns → (setup : Setup) (durability : Durability) (commands : List Command)
    (preface : List ℕ) (w last : World) (front rest : List TraceEntry) (told : List Event) (lacking : ℕ)
    (old journal : JournalState) → setup.journal ≡ Some durability → TellsEvents preface old told
    → Session setup commands w (front ++ rest) last → IsJournaled setup.journal 0 (front ++ rest) lacking
    → JournalAfter (calls_of front) old journal → Splits setup w front rest last
    → IsMoment setup durability preface w told front rest journal
    ⊎ ((start : World) × (since : List TraceEntry) × IsRenewed setup w front start since
    × IsMoment setup durability (begun setup start) start [] since rest journal)
moment_in read runs setup durability commands preface w last front rest told lacking old journal has tells session lacks after (inl stays) =
    inl (record {
      commands = commands;
      last = last;
      lacking = lacking;
      start = old;
      has = has;
      session = session;
      lacks = lacks;
      tells = tells;
      unrenewed = stays;
      after = after;
    })
moment_in read runs setup durability commands preface w last front rest told lacking old journal has tells session lacks after (inr s) =
    let (renews, moment) = renewed_moment read runs setup durability w last front rest lacking old journal has lacks after s in
    inr (s.start, s.since, renews, moment)

pub each_part : RecordingsAreRead → SessionsAreRuns → EachPartIsAMoment
each_part read runs setup durability commands preface w last front rest told lacking old new has tells session lacks journaled =
    let (journal, first, later) =
    after_parts (calls_of front) (calls_of rest) old new
    (subst (λ (l : List Call). JournalAfter l old new) (calls_both front rest) journaled) in (
      journal,
      later,
      moment_in read runs setup durability commands preface w last front rest told lacking old journal has tells session lacks
          first (split setup commands w last (front ++ rest) front rest refl session),
    )
