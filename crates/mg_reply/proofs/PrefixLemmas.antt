-- A reply whose names are valid is no proper prefix of another such reply, since it ends at the brace that closes its
-- first opening brace.
use Rattle.std.proofs.Common.{◌≡◌, ℕ, ◌*◌, suc, Bool, true, false, ◌&&◌, not, cond, nat_le, eqb, List, [], ◌∷◌, ◌++◌, length, map, Option, Some, None, refl, sym, ap, ◌∙◌, append_assoc, codes, decimal, slice_index}
use Rattle.std.proofs.lemmas.Bool.{and_parts, and_from}
use Rattle.std.proofs.lemmas.List.{append-nil}
use Rattle.std.proofs.lemmas.List.Folds.{list_all-append}
use Rattle.std.specs.List.{list_all, filter}
use Rattle.mg_g711.specs.declared.law.Law.{Law}
use Rattle.mg_g711.specs.declared.law.Law.TheVariants.{Mu, A}
use Rattle.mg_sdp.specs.declared.chosen.Chosen.{Chosen}
use Rattle.mg_words.specs.Address.{address_text}
use Rattle.mg_sdp.specs.Written.{law_text, session_text}
use Rattle.mg_words.specs.WordByte.{is_word_byte}
use Rattle.mg_words.specs.declared.association.Association.{Association}
use Rattle.mg_words.specs.declared.association.Association.TheVariants.{Isolate, Oneway, Bothway}
use Rattle.mg_words.specs.declared.mode.Mode.{Mode}
use Rattle.mg_words.specs.declared.mode.Mode.TheVariants.{SendOnly, ReceiveOnly, SendReceive, Inactive, Loopback}
use Rattle.mg_reply.specs.declared.control.Control.{Control}
use Rattle.mg_reply.specs.declared.media.Media.{Media}
use Rattle.mg_reply.specs.declared.media.Media.TheVariants.{Local, Whole}
use Rattle.mg_words.specs.declared.stats.Stats.{Stats}
use Rattle.mg_words.specs.declared.command_word.CommandWord.{CommandWord}
use Rattle.mg_words.specs.declared.command_word.CommandWord.TheVariants.{Add, Modify, Move, Subtract, AuditValue, AuditCapability, Notify, ServiceChange}
use Rattle.mg_words.specs.declared.context_id.ContextId.{ContextId}
use Rattle.mg_words.specs.declared.context_id.ContextId.TheVariants.{Null, Choose, All, Number}
use Rattle.mg_reply.specs.declared.entry_kind.EntryKind.{EntryKind}
use Rattle.mg_reply.specs.declared.entry_kind.EntryKind.TheVariants.{Triples, Commands, Faults}
use Rattle.mg_words.specs.declared.error_number.ErrorNumber.{ErrorNumber}
use Rattle.mg_words.specs.declared.error_number.ErrorNumber.TheVariants.{Syntax, Version, IdentifierNotAllowed, UnknownContext, NoContextLeft, IllegalCombination, UnknownTermination, WildcardMatchedNone, NoTerminationLeft, AlreadyInContext, ContextFull, NotInContext, DescriptorNotServed, PropertyNotServed, DescriptorTwice, NotServed, NoMedia, ReplyTooLong}
use Rattle.mg_reply.specs.declared.outcome.Parts.{Parts}
use Rattle.mg_reply.specs.declared.outcome.Outcome.{Outcome}
use Rattle.mg_reply.specs.declared.outcome.Outcome.TheVariants.{Failed, Done}
use Rattle.mg_reply.specs.declared.item.Item.{Item}
use Rattle.mg_reply.specs.declared.item.Item.TheVariants.{Triple, Command, Fault, Action}
use Rattle.mg_words.specs.ErrorNumber.{error_row, error_text}
use Rattle.mg_words.specs.Term.{is_term}
use Rattle.mg_reply.specs.Listed.{listed, grouped}
use Rattle.mg_words.specs.Mode.{mode_text}
use Rattle.mg_words.specs.Association.{association_text}
use Rattle.mg_words.specs.CommandWord.{command_text}
use Rattle.mg_words.specs.ContextId.{context_text}
use Rattle.mg_reply.specs.Media.{control_text, local_text, remote_text, optional, reported_stream, media_text, statistics_text, reported_parts}
use Rattle.mg_reply.specs.Entries.{outcome_text, item_text, is_of, texts_of, topology_entry, entries_of}
use Rattle.mg_reply.specs.Written.{action_text, actions_text, items_text, reply_text}
use Rattle.mg_reply.specs.Theorems.{has_terms, NoProperPrefix}
use Rattle.mg_reply.proofs.BraceLemmas.{after, IsPassed, passed-append, passed_inside, decimal_passed, decimal_is_passed, word_passed, ArePassed, are_passed-append, next_passed, grouped_passed}

-- These lemmas show that keywords contain no brace.
mode_passed : (m : Mode) → IsPassed (mode_text m)
unfolding mode_text
mode_passed SendOnly = λ d t. refl
mode_passed ReceiveOnly = λ d t. refl
mode_passed SendReceive = λ d t. refl
mode_passed Inactive = λ d t. refl
mode_passed Loopback = λ d t. refl

association_passed : (a : Association) → IsPassed (association_text a)
unfolding association_text
association_passed Isolate = λ d t. refl
association_passed Oneway = λ d t. refl
association_passed Bothway = λ d t. refl

command_passed : (w : CommandWord) → IsPassed (command_text w)
unfolding command_text
command_passed Add = λ d t. refl
command_passed Modify = λ d t. refl
command_passed Move = λ d t. refl
command_passed Subtract = λ d t. refl
command_passed AuditValue = λ d t. refl
command_passed AuditCapability = λ d t. refl
command_passed Notify = λ d t. refl
command_passed ServiceChange = λ d t. refl

-- If reading over a part leaves the number of open braces unchanged, so does reading over a number and that part.
number_then : (n : ℕ) (p : List ℕ) → IsPassed p → IsPassed (decimal n ++ p)
number_then n p rest = passed-append (decimal n) p (decimal_is_passed n) rest

error_text_passed : (e : ErrorNumber) → IsPassed (error_row e).1
unfolding error_row
error_text_passed Syntax = λ d t. refl
error_text_passed Version = λ d t. refl
error_text_passed IdentifierNotAllowed = λ d t. refl
error_text_passed UnknownContext = λ d t. refl
error_text_passed NoContextLeft = λ d t. refl
error_text_passed IllegalCombination = λ d t. refl
error_text_passed UnknownTermination = λ d t. refl
error_text_passed WildcardMatchedNone = λ d t. refl
error_text_passed NoTerminationLeft = λ d t. refl
error_text_passed AlreadyInContext = λ d t. refl
error_text_passed ContextFull = λ d t. refl
error_text_passed NotInContext = λ d t. refl
error_text_passed DescriptorNotServed = λ d t. refl
error_text_passed PropertyNotServed = λ d t. refl
error_text_passed DescriptorTwice = λ d t. refl
error_text_passed NotServed = λ d t. refl
error_text_passed NoMedia = λ d t. refl
error_text_passed ReplyTooLong = λ d t. refl

quoted_passed : (p : List ℕ) → IsPassed p → IsPassed (codes "{\"" ++ (p ++ codes "\"}"))
quoted_passed p one = λ d t. ap (after (suc (suc d))) (append_assoc p (codes "\"}") t) ∙ one (suc d) (codes "\"}" ++ t)

error_passed : (e : ErrorNumber) → IsPassed (error_text e)
unfolding error_text
error_passed e =
    let text = codes "{\"" ++ ((error_row e).1 ++ codes "\"}") in
    passed-append (codes "Error=") (decimal (error_row e).0 ++ text) (λ d t. refl)
    (number_then (error_row e).0 text (quoted_passed (error_row e).1 (error_text_passed e)))

context_passed : (id : ContextId) → IsPassed (context_text id)
context_passed Null = λ d t. refl
context_passed Choose = λ d t. refl
context_passed All = λ d t. refl
context_passed (Number n) = decimal_is_passed n

term_passed : (t : List ℕ) → is_term t ≡ true → IsPassed t
term_passed t h = word_passed t (and_parts (not (eqb (length t) 0) && nat_le (length t) 64) (list_all is_word_byte t)
    h).1

-- These lemmas show that the braces of a session description are balanced.
law_passed : (l : Law) → IsPassed (law_text l)
law_passed Mu = λ d t. refl
law_passed A = λ d t. refl

address_passed : (a : List ℕ) → IsPassed (address_text a)
address_passed a =
    let last = decimal_is_passed (slice_index a 3) in
    let third = number_then (slice_index a 2) (codes "." ++ decimal (slice_index a 3)) last in
    let second = number_then (slice_index a 1)
    (codes "." ++ (decimal (slice_index a 2) ++ (codes "." ++ decimal (slice_index a 3)))) third in
    number_then (slice_index a 0) (codes "." ++
    (decimal (slice_index a 1) ++ (codes "." ++
    (decimal (slice_index a 2) ++ (codes "." ++ decimal (slice_index a 3)))))) second

session_passed : (c : Chosen) → IsPassed (session_text c)
session_passed c =
    let tail = codes "\r\n" ++ codes "a=ptime:20\r\n" in
    let law = passed-append (law_text c.law) tail (law_passed c.law) (λ d t. refl) in
    let media = codes " RTP/AVP " ++ (law_text c.law ++ tail) in
    let port = number_then c.port media law in
    passed-append (address_text c.address) (codes "\r\n" ++ (codes "m=audio " ++ (decimal c.port ++ media)))
    (address_passed c.address) port

-- These lemmas show that the braces of media and statistics are balanced.
control_passed : (c : Control) → IsPassed (control_text c)
unfolding control_text
control_passed c =
    let depth = decimal (20 * c.depth) in
    λ d t.
    ap (after (suc (suc d))) (append_assoc (mode_text c.mode) (codes ",nt/jit=" ++ (depth ++ codes "}")) t)
    ∙ mode_passed c.mode (suc d) ((codes ",nt/jit=" ++ (depth ++ codes "}")) ++ t)
    ∙ passed_inside depth (decimal_is_passed (20 * c.depth)) d t

local_passed : (c : Chosen) → IsPassed (local_text c)
unfolding local_text
local_passed c = passed_inside (session_text c) (session_passed c)

remote_passed : (c : Chosen) → IsPassed (remote_text c)
unfolding remote_text
remote_passed c = passed_inside (session_text c) (session_passed c)

optional_passed : {A : Type 0} (text : A → List ℕ) (o : Option A) → ((a : A) → IsPassed (text a)) →
    ArePassed (optional text o)
optional_passed text None each = tt
optional_passed text (Some a) each = (each a, tt)

stream_passed : (m : Media) → ArePassed (reported_stream m)
stream_passed (Local c) = (local_passed c, tt)
stream_passed (Whole control local remote) = (
  control_passed control,
  are_passed-append (optional local_text local) (optional remote_text remote)
      (optional_passed local_text local local_passed) (optional_passed remote_text remote remote_passed),
)

media_passed : (m : Media) → IsPassed (media_text m)
unfolding media_text
media_passed m = passed_inside (grouped (reported_stream m)) (grouped_passed (reported_stream m) (stream_passed m))

statistics_passed : (s : Stats) → IsPassed (statistics_text s)
unfolding statistics_text
statistics_passed s =
    let close = codes "}" in
    let fourth = decimal s.or_ ++ close in
    let third = decimal s.os ++ (codes ",nt/or=" ++ fourth) in
    let second = decimal s.pr ++ (codes ",nt/os=" ++ third) in
    λ d t.
    ap (after (suc (suc d))) (append_assoc (decimal s.ps) (codes ",rtp/pr=" ++ second) t)
    ∙ decimal_passed s.ps (suc (suc d)) ((codes ",rtp/pr=" ++ second) ++ t)
    ∙ ap (after (suc (suc d))) (append_assoc (decimal s.pr) (codes ",nt/os=" ++ third) t)
    ∙ decimal_passed s.pr (suc (suc d)) ((codes ",nt/os=" ++ third) ++ t)
    ∙ ap (after (suc (suc d))) (append_assoc (decimal s.os) (codes ",nt/or=" ++ fourth) t)
    ∙ decimal_passed s.os (suc (suc d)) ((codes ",nt/or=" ++ fourth) ++ t)
    ∙ passed_inside (decimal s.or_) (decimal_is_passed s.or_) d t

parts_passed : (p : Parts) → ArePassed (reported_parts p)
parts_passed p = are_passed-append (optional media_text p.media) (optional statistics_text p.statistics)
    (optional_passed media_text p.media media_passed) (optional_passed statistics_text p.statistics statistics_passed)

-- These lemmas show that the braces of an item are balanced.
outcome_passed : (o : Outcome) → IsPassed (outcome_text o)
outcome_passed (Failed e) = grouped_passed (error_text e ∷ []) (error_passed e, tt)
outcome_passed (Done parts) = grouped_passed (reported_parts parts) (parts_passed parts)

item_passed : (x : Item) → has_terms x ≡ true → IsPassed (item_text x)
item_passed (Triple a b association) h =
    let both = and_parts (is_term a) (is_term b) h in
    let second = passed-append b (codes "," ++ association_text association) (term_passed b both.1)
    (association_passed association) in
    passed-append a (codes "," ++ (b ++ (codes "," ++ association_text association))) (term_passed a both.0) second
item_passed (Command word term outcome) h =
    let named = passed-append term (outcome_text outcome) (term_passed term h) (outcome_passed outcome) in
    passed-append (command_text word) (codes "=" ++ (term ++ outcome_text outcome)) (command_passed word) named
item_passed (Fault e) h = error_passed e
item_passed (Action id) h = λ d t. refl

-- These lemmas show that the braces of the entries of an action are balanced.
texts_passed : (kind : EntryKind) (xs : List Item) → list_all has_terms xs ≡ true → ArePassed (texts_of kind xs)
texts_passed kind [] h = tt
texts_passed kind (x ∷ xs) h =
    let parts = and_parts (has_terms x) (list_all has_terms xs) h in
    by_test (is_of kind x) (item_passed x parts.0) (texts_passed kind xs parts.1)
  where
    by_test : (b : Bool) → IsPassed (item_text x) → ArePassed (texts_of kind xs) →
        ArePassed (map item_text (cond b (x ∷ filter (is_of kind) xs) (filter (is_of kind) xs)))
    by_test true one rest = (one, rest)
    by_test false one rest = rest

topology_passed : (xs : List (List ℕ)) → ArePassed xs → ArePassed (topology_entry xs)
unfolding listed
topology_passed [] all = tt
topology_passed (x ∷ xs) all =
    let row = passed-append x (listed (codes ",") xs) all.0 (next_passed xs all.1) in
    (passed_inside (x ++ listed (codes ",") xs) row, tt)

entries_passed : (xs : List Item) → list_all has_terms xs ≡ true → ArePassed (entries_of xs)
entries_passed xs h =
    let rest = are_passed-append (texts_of Commands xs) (texts_of Faults xs) (texts_passed Commands xs h)
    (texts_passed Faults xs h) in
    are_passed-append (topology_entry (texts_of Triples xs)) (texts_of Commands xs ++ texts_of Faults xs)
    (topology_passed (texts_of Triples xs) (texts_passed Triples xs h)) rest

action_passed : (id : ContextId) (xs : List Item) → list_all has_terms xs ≡ true → IsPassed (action_text id xs)
action_passed id xs h = passed-append (context_text id) (grouped (entries_of xs)) (context_passed id)
    (grouped_passed (entries_of xs) (entries_passed xs h))

-- These lemmas show that the braces of actions are balanced.
one_more : (xs : List Item) (x : Item) → list_all has_terms xs ≡ true → has_terms x ≡ true →
    list_all has_terms (xs ++ x ∷ []) ≡ true
one_more xs x h one = list_all-append has_terms xs (x ∷ []) ∙
    and_from (list_all has_terms xs) (has_terms x && true) h (and_from (has_terms x) true one refl)

actions_passed : (mark : List ℕ) (pending xs : List Item) → IsPassed mark → list_all has_terms pending ≡ true →
    list_all has_terms xs ≡ true → IsPassed (actions_text mark pending xs)
unfolding actions_text
actions_passed mark pending [] first waiting rest = λ d t. refl
actions_passed mark pending (Action id ∷ xs) first waiting rest =
    let others = actions_passed (codes ",") [] xs (λ d t. refl) refl rest in
    passed-append mark (action_text id pending ++ actions_text (codes ",") [] xs) first
    (passed-append (action_text id pending) (actions_text (codes ",") [] xs) (action_passed id pending waiting)
    others)
actions_passed mark pending (Triple a b association ∷ xs) first waiting rest =
    let parts = and_parts (has_terms (Triple a b association)) (list_all has_terms xs) rest in
    actions_passed mark (pending ++ Triple a b association ∷ []) xs first
    (one_more pending (Triple a b association) waiting parts.0) parts.1
actions_passed mark pending (Command word term outcome ∷ xs) first waiting rest =
    let parts = and_parts (has_terms (Command word term outcome)) (list_all has_terms xs) rest in
    actions_passed mark (pending ++ Command word term outcome ∷ []) xs first
    (one_more pending (Command word term outcome) waiting parts.0) parts.1
actions_passed mark pending (Fault e ∷ xs) first waiting rest =
    actions_passed mark (pending ++ Fault e ∷ []) xs first (one_more pending (Fault e) waiting refl) rest

items_passed : (xs : List Item) → list_all has_terms xs ≡ true → IsPassed (items_text xs)
items_passed [] h = actions_passed [] [] [] (λ d t. refl) refl h
items_passed (Fault e ∷ []) h = error_passed e
items_passed (Fault e ∷ (y ∷ ys)) h = actions_passed [] [] (Fault e ∷ (y ∷ ys)) (λ d t. refl) refl h
items_passed (Triple a b association ∷ xs) h = actions_passed [] [] (Triple a b association ∷ xs) (λ d t. refl) refl h
items_passed (Command word term outcome ∷ xs) h =
    actions_passed [] [] (Command word term outcome ∷ xs) (λ d t. refl) refl h
items_passed (Action id ∷ xs) h = actions_passed [] [] (Action id ∷ xs) (λ d t. refl) refl h

-- A reply whose names are valid ends at the brace that closes its first opening brace.
pub after_reply : (n : ℕ) (xs : List Item) (rest : List ℕ) → list_all has_terms xs ≡ true →
    after 0 (reply_text n xs ++ rest) ≡ Some rest
after_reply n xs rest h =
    let inner = items_text xs ++ codes "}" in
    ap (after 0) (append_assoc (decimal n) (codes "{" ++ inner) rest)
    ∙ decimal_passed n 0 ((codes "{" ++ inner) ++ rest)
    ∙ ap (after 1) (append_assoc (items_text xs) (codes "}") rest)
    ∙ items_passed xs h 0 (codes "}" ++ rest)

pub no_proper_prefix : NoProperPrefix
no_proper_prefix n m xs ys rest first second same =
    let whole = after_reply m ys [] second in
    let longer = after_reply n xs rest first in
    let both : Some rest ≡ Some [] = sym longer ∙ ap (after 0) (sym same ∙ sym (append-nil (reply_text m ys))) ∙
    whole in
    cc
