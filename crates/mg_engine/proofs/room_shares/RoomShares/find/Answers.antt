use Rattle.mg_engine.proofs.Common.{◌∙◌, ◌-◌, ℕ, List, drop, length, subst, take, take-append-drop, Contains, Contains-append_left, Contains-append_right, IfSome_then, Share}
use Rattle.mg_engine.proofs.room_shares.RoomShares.find.Goals as goal

-- An element of a part of a list is an element of the list.
in_part : (shares : List Share) (m n : ℕ) (share : Share) → Contains (take n (drop m shares)) share →
    Contains shares share
in_part shares m n share has =
    let left = subst (λ (some : List Share). Contains some share) (take-append-drop n (drop m shares))
    (Contains-append_left (take n (drop m shares)) (drop n (drop m shares)) share has) in
    subst (λ (some : List Share). Contains some share) (take-append-drop m shares)
    (Contains-append_right (take m shares) (drop m shares) share left)

pub returns : goal.returns
returns c =
    let shares = c.as_slice-shares.result.now in
    let older = c.saturating_sub-older.result in
    let share : ℕ → Share = λ packet. record { talkers = c.args.talkers; law = c.args.law; packet = packet } in
    record {
      found = IfSome_then c.packet_among.result c.packet_among.ensures.found
          (λ packet has. subst (λ (some : List Share). Contains some (share packet))
          (c.as_slice-shares.ensures.value ∙ c.self.view_is)
          (in_part shares older (length shares - older) (share packet) has));
    }
