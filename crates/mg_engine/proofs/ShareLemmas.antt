-- Packets with shared payloads keep their payloads.
use Rattle.mg_engine.proofs.Common.{◌≡◌, ℕ, zero, suc, ◌<◌, eqb, Bool, true, false, cond, List, [], ◌∷◌, ◌++◌, length, replicate, refl, sym, ap, subst, ◌∙◌, arith, nat_lt, All, eqb-true, get_or-set_same, get_or-set_other, Datagram, Share, EngineState, with_mixes, AreShared, context_limit, member_limit, length_push, get_or-append_seam, All-nil, All-weaker, All-push, IsShared, one_more, packet_at, payload_of, payload_on, shares_in, with_share, get_or_append_left}
use Rattle.mg_engine.specs.aids.Datagram.{blank}
use Rattle.mg_engine.proofs.MemberLemmas.{unequal}

-- Shared payloads are unchanged after one more packet is appended.
module _ (k : EngineState) (outbox : List Datagram) (sent : Datagram) (work : ℕ) (shares : List (List Share)) where
  abbrev now : EngineState
  now = with_mixes k work shares

  still : (room : ℕ) (share : Share) → IsShared k outbox room share → IsShared now (outbox ++ sent ∷ []) room share
  still room share h = record {
    sent = omega (arith, h.sent, length_push outbox sent);
    payload = ap payload_of (get_or_append_left outbox (sent ∷ []) blank share.packet h.sent) ∙ h.payload;
  }

  pub all_still : (room : ℕ) (list : List Share) → All (IsShared k outbox room) list →
      All (IsShared now (outbox ++ sent ∷ []) room) list
  all_still room list h = All-weaker (IsShared k outbox room) (IsShared now (outbox ++ sent ∷ []) room) (still room)
      list h

-- Appending a packet without a new share keeps the shares correct.
pub still_shared : (k : EngineState) (outbox : List Datagram) (sent : Datagram) → AreShared k outbox →
    AreShared k (outbox ++ sent ∷ [])
still_shared k outbox sent h room = all_still k outbox sent k.sums.work k.shares room (shares_in k.shares room) (h room)

-- Appending a packet together with its share keeps the shares correct.
module _ (k : EngineState) (outbox : List Datagram) (sent : Datagram) (work at : ℕ) (share : Share)
    (there : at < length k.shares) (packet : share.packet ≡ length outbox)
    (payload : payload_of sent ≡ payload_on k at share.talkers share.law) (h : AreShared k outbox) where
  abbrev after : EngineState
  after = with_mixes k work (with_share k.shares at share)

  new_one : IsShared after (outbox ++ sent ∷ []) at share
  new_one = record {
    sent = omega (arith, packet, length_push outbox sent);
    payload = ap (λ (i : ℕ). payload_of (packet_at (outbox ++ sent ∷ []) i)) packet ∙
        ap payload_of (get_or-append_seam outbox sent [] blank) ∙ payload;
  }

  with_new : (b : Bool) (list : List Share) → All (IsShared k outbox at) list →
      All (IsShared after (outbox ++ sent ∷ []) at) (cond b (list ++ share ∷ []) list)
  with_new true list all = All-push (IsShared after (outbox ++ sent ∷ []) at) list share
      (all_still k outbox sent work (with_share k.shares at share) at list all) new_one
  with_new false list all = all_still k outbox sent work (with_share k.shares at share) at list all

  shared_at : (room : ℕ) (b : Bool) → eqb room at ≡ b →
      All (IsShared after (outbox ++ sent ∷ []) room) (shares_in (with_share k.shares at share) room)
  shared_at room true e =
      let list = shares_in k.shares at in
      rw (eqb-true room at e, get_or-set_same k.shares at (one_more list share) [] there)
      (with_new (nat_lt (length list) member_limit) list (h at))
  shared_at room false e =
      rw (get_or-set_other k.shares at room (one_more (shares_in k.shares at) share) [] (unequal room at e))
      (all_still k outbox sent work (with_share k.shares at share) room (shares_in k.shares room) (h room))

  pub now_shared : AreShared after (outbox ++ sent ∷ [])
  now_shared room = shared_at room (eqb room at) refl

-- ## Rooms without shares

none_in : (n room : ℕ) → shares_in (replicate n []) room ≡ []
none_in zero room = refl
none_in (suc n) zero = refl
none_in (suc n) (suc room) = none_in n room

pub none_shared : (k : EngineState) (outbox : List Datagram) → k.shares ≡ replicate context_limit [] →
    AreShared k outbox
none_shared k outbox none room = subst (λ (list : List Share). All (IsShared k outbox room) list)
    (sym (ap (λ (shares : List (List Share)). shares_in shares room) none ∙ none_in context_limit room))
    (All-nil (IsShared k outbox room))
