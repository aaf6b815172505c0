-- `is_same` returns true if and only if the two flows are equal.
use Rattle.std.proofs.Common.{◌≡◌, eqb, ◌&&◌, true, List, [], ◌∷◌, Option, Some, None, refl, ap, inl, inr}
use Rattle.std.specs.Bool.{Decides}
use Rattle.std.specs.Option.{option_eq}
use Rattle.std.specs.Str.{bytes_eq}
use Rattle.std.proofs.lemmas.Bool.{and_parts, eqb-true, or_cases, or_left, or_right}
use Rattle.std.proofs.lemmas.Bool.Decides.{Decides-eqb, Decides-and, Decides-like}
use Rattle.std.proofs.lemmas.Slice.Eq.{bytes_eq-Decides}
use Rattle.mg_words.specs.declared.peer.Peer.{Peer}
use Rattle.mg_heard.specs.declared.open_flow.OpenFlow.{OpenFlow}
use Rattle.mg_heard.specs.aids.Hearers.{is_same_seated}
use Rattle.mg_heard.specs.declared.seated.Seated.{Seated}
use Rattle.mg_heard.specs.OpenFlow.{has, is_same, is_same_peer}
use Rattle.mg_heard.proofs.Members.{In}

same_peer : (a b : Peer) → Decides (is_same_peer a b) (Some a ≡ Some b)
same_peer a b = Decides-like (is_same_peer a b) (λ e. λ i. Some (record { address = e.0 i; port = e.1 i }))
    (λ e. let same : a ≡ b = cc in (ap (λ (p : Peer). p.address) same, ap (λ (p : Peer). p.port) same))
    (Decides-and (bytes_eq a.address b.address) (eqb a.port b.port) (bytes_eq-Decides a.address b.address)
    (Decides-eqb a.port b.port))

same_remote : (a b : Option Peer) → Decides (option_eq is_same_peer a b) (a ≡ b)
same_remote None None = (λ e. refl, λ e. refl)
same_remote None (Some b) = (λ e. absurd (cc), λ e. absurd (cc))
same_remote (Some a) None = (λ e. absurd (cc), λ e. absurd (cc))
same_remote (Some a) (Some b) = same_peer a b

pub same : (a b : OpenFlow) → Decides (is_same a b) (a ≡ b)
same a b =
    let at = same_remote a.listener_at b.listener_at in
    let too = same_remote a.talker_at b.talker_at in
    Decides-like (is_same a b)
    (λ e. λ i. record {
      listener = e.0 i;
      talker = e.1.0 i;
      context = e.1.1.0 i;
      listener_at = e.1.1.1.0 i;
      talker_at = e.1.1.1.1 i;
    })
    (λ e. (
      ap (λ (x : OpenFlow). x.listener) e,
      (
        ap (λ (x : OpenFlow). x.talker) e,
        (
          ap (λ (x : OpenFlow). x.context) e,
          (ap (λ (x : OpenFlow). x.listener_at) e, ap (λ (x : OpenFlow). x.talker_at) e),
        ),
      ),
    ))
    (Decides-and _ _ (Decides-eqb a.listener b.listener) (Decides-and _ _ (Decides-eqb a.talker b.talker)
    (Decides-and _ _ (Decides-eqb a.context b.context) (Decides-and _ _ at too))))

pub in_from_has : (flows : List OpenFlow) (x : OpenFlow) → has flows x ≡ true → In x flows
in_from_has [] x h = absurd (cc)
in_from_has (y ∷ flows) x h = elim (or_cases (is_same x y) (has flows x) h) [
  | inl e ↦ inl ((same x y).0 e)
  | inr e ↦ inr (in_from_has flows x e)
]

pub has_from_in : (flows : List OpenFlow) (x : OpenFlow) → In x flows → has flows x ≡ true
has_from_in [] x h = absurd h
has_from_in (y ∷ flows) x (inl e) = or_left (is_same x y) (has flows x) ((same x y).1 e)
has_from_in (y ∷ flows) x (inr h) = or_right (is_same x y) (has flows x) (has_from_in flows x h)

pub same_seated : (a b : Seated) → is_same_seated a b ≡ true → a ≡ b
same_seated a b h =
    let (p, seat) = and_parts (eqb a.party.number b.party.number && (eqb a.party.context b.party.context
    && option_eq is_same_peer a.party.at b.party.at)) (eqb a.seat b.seat) h in
    let (number, q) = and_parts (eqb a.party.number b.party.number) (eqb a.party.context b.party.context
    && option_eq is_same_peer a.party.at b.party.at) p in
    let (context, at) = and_parts (eqb a.party.context b.party.context) (option_eq is_same_peer a.party.at b.party.at) q in
    let n = eqb-true a.party.number b.party.number number in
    let c = eqb-true a.party.context b.party.context context in
    let r = (same_remote a.party.at b.party.at).0 at in
    let s = eqb-true a.seat b.seat seat in
    λ i. record { party = record { number = n i; context = c i; at = r i }; seat = s i }
