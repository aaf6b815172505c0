-- The results of small requests, by computation.
use Rattle.std.proofs.Common.{◌≡◌, ℕ, List, [], ◌∷◌, None, refl, codes, true, false}
use Rattle.mg_scan.specs.declared.span.Span.{Span}
use Rattle.mg_words.specs.declared.command_word.CommandWord.{CommandWord}
use Rattle.mg_words.specs.declared.command_word.CommandWord.TheVariants.{Add, Modify, Move, Subtract, AuditValue}
use Rattle.mg_words.specs.declared.context_id.ContextId.{ContextId}
use Rattle.mg_words.specs.declared.context_id.ContextId.TheVariants.{Choose, Number}
use Rattle.mg_words.specs.declared.error_number.ErrorNumber.{ErrorNumber}
use Rattle.mg_words.specs.declared.error_number.ErrorNumber.TheVariants.{UnknownContext, UnknownTermination, NoTerminationLeft, AlreadyInContext, WildcardMatchedNone}
use Rattle.mg_reply.specs.declared.item.Item.{Item}
use Rattle.mg_reply.specs.declared.item.Item.TheVariants as items
use Rattle.mg_reply.specs.declared.outcome.Outcome.TheVariants.{Failed, Done}
use Rattle.mg_words.specs.Term.{rtp_name}
use Rattle.mg_rooms.specs.Outcome.{add, modify, move_to, subtract}
use Rattle.mg_engine.specs.Config.{standard}
use Rattle.mg_engine.specs.Gateway.{Gateway, start_of}
use Rattle.mg_text.specs.declared.command.Command.{Command}
use Rattle.mg_text.specs.declared.descriptor.Descriptor.{Descriptor}
use Rattle.mg_text.specs.declared.descriptor.Descriptor.TheVariants.{Audit}
use Rattle.mg_text.specs.declared.request.Request.{Request}
use Rattle.mg_commands.specs.Name.{name_of, name_in_rtp, written_name}
use Rattle.mg_words.specs.Cut.{after_prefix}
use Rattle.mg_commands.specs.Outcome.{outcome}
use Rattle.mg_commands.specs.Search.{first_of, first_after}
use Rattle.mg_commands.specs.Transaction.{replied, with_action}

abbrev source : List ℕ
source = codes "$RTP/1RTP/2RTP/9*"

abbrev choose : Span
choose = record { start = 0; end = 1 }

abbrev first : Span
first = record { start = 1; end = 6 }

abbrev second : Span
second = record { start = 6; end = 11 }

abbrev ninth : Span
ninth = record { start = 11; end = 16 }

abbrev every : Span
every = record { start = 16; end = 17 }

abbrev command : CommandWord → Span → List Descriptor → Command
command word term xs = record {
  word = word;
  is_optional = false;
  wants_wildcard = false;
  term = term;
  descriptors = xs;
}

abbrev optional : Command → Command
optional c = record c { is_optional = true }

abbrev request : ContextId → List Command → Request
request context cs = record { number = 1; actions = record { context = context; properties = []; commands = cs } ∷ [] }

abbrev after : Gateway → ContextId → List Command → Gateway
after w context cs = (replied source (request context cs) w).gateway

abbrev reported : Gateway → ContextId → List Command → List Item
reported w context cs = (replied source (request context cs) w).items

abbrev new_gateway : Gateway
new_gateway = start_of standard

abbrev add_one : Command
add_one = command Add choose []

abbrev done : CommandWord → List ℕ → Item
done word term = items.Command word term (Done (record { media = None; statistics = None }))

abbrev failed : CommandWord → List ℕ → ErrorNumber → Item
failed word term e = items.Command word term (Failed e)

abbrev one_member : Gateway
one_member = after new_gateway Choose (add_one ∷ [])

two_terminations_enter_one_context : reported new_gateway Choose (add_one ∷ add_one ∷ []) ≡ done Add (rtp_name 1) ∷
    done Add (rtp_name 2) ∷ items.Action (Number 1) ∷ []
unfolding with_action outcome add name_of after_prefix name_in_rtp first_after
    first_of
two_terminations_enter_one_context = refl

an_unknown_name_ends_the_request : reported new_gateway Choose (command Modify ninth [] ∷ add_one ∷ []) ≡
    failed Modify (rtp_name 9) UnknownTermination ∷ items.Action Choose ∷ []
unfolding with_action outcome add modify name_of after_prefix name_in_rtp
    written_name first_after first_of
an_unknown_name_ends_the_request = refl

one_slot_is_used_up : reported (start_of (record standard { slots = 1 })) Choose (add_one ∷ add_one ∷ []) ≡
    done Add (rtp_name 1) ∷ failed Add (codes "$") NoTerminationLeft ∷ items.Action (Number 1) ∷ []
unfolding with_action outcome add name_of after_prefix name_in_rtp written_name
    first_after first_of
one_slot_is_used_up = refl

a_context_ends_with_its_last_member : reported one_member (Number 1)
    (command Subtract first (Audit [] ∷ []) ∷ add_one ∷ []) ≡ done Subtract (rtp_name 1) ∷
    failed Add (codes "$") UnknownContext ∷ items.Action (Number 1) ∷ []
unfolding with_action outcome add subtract name_of after_prefix name_in_rtp
    written_name first_after first_of
a_context_ends_with_its_last_member = refl

an_ended_context_stays_the_action_s : reported (after one_member (Number 1) (command Subtract first [] ∷ [])) Choose
    (add_one ∷ command Subtract second (Audit [] ∷ []) ∷ add_one ∷ []) ≡ done Add (rtp_name 2) ∷
    done Subtract (rtp_name 2) ∷ failed Add (codes "$") UnknownContext ∷ items.Action (Number 2) ∷ []
unfolding with_action outcome add subtract name_of after_prefix name_in_rtp
    written_name first_after first_of
an_ended_context_stays_the_action_s = refl

a_member_cannot_move_to_its_context : reported one_member (Number 1) (command Move first [] ∷ []) ≡
    failed Move (rtp_name 1) AlreadyInContext ∷ items.Action (Number 1) ∷ []
unfolding with_action outcome add move_to name_of after_prefix name_in_rtp
    written_name first_after first_of
a_member_cannot_move_to_its_context = refl

an_optional_command_ends_nothing : reported new_gateway Choose (optional (command Modify ninth []) ∷ add_one ∷ []) ≡
    failed Modify (rtp_name 9) UnknownTermination ∷ done Add (rtp_name 1) ∷ items.Action (Number 1) ∷ []
unfolding with_action outcome add modify name_of after_prefix name_in_rtp
    written_name first_after first_of
an_optional_command_ends_nothing = refl

all_members_leave_and_none_is_left : reported (after one_member (Number 1) (add_one ∷ [])) (Number 1)
    (command Subtract every (Audit [] ∷ []) ∷ command AuditValue every [] ∷ add_one ∷ []) ≡
    done Subtract (rtp_name 1) ∷ done Subtract (rtp_name 2) ∷ failed AuditValue (codes "*") WildcardMatchedNone ∷
    items.Action (Number 1) ∷ []
unfolding with_action outcome add subtract name_of after_prefix name_in_rtp
    written_name first_after first_of
all_members_leave_and_none_is_left = refl
