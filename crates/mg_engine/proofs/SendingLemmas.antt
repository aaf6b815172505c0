-- The packets that a tick sends, one termination after another.
use Rattle.mg_engine.proofs.Common.{◌≡◌, ℕ, ◌+◌, ◌<◌, [], ◌∷◌, length, get_or, take, ◌%◌, ◌^◌, List, ◌++◌, map, Option, Some, None, refl, ap, ◌∙◌, filter_map, option_to_list, take_more, byte_of, Header, header_bytes, plain, Chosen, Record, slot_port, Datagram, packet_now, mixed_now, EngineState, media_at, type_of, SlotMedia, filter_map-append}
use Rattle.mg_words.specs.declared.mode.Mode.TheVariants.{Inactive}
use Rattle.mg_engine.specs.aids.MediaSteps as media_steps

abbrev datagram : Chosen → ℕ → List ℕ → Datagram
datagram to from bytes = record { from = from; to = record { address = to.address; port = to.port }; bytes = bytes }

abbrev ssrc_of : EngineState → Record → ℕ
ssrc_of k r = (k.config.ssrc + r.number) % 2 ^ 32

pub packet_is : (k : EngineState) (r : Record) (to : Chosen) (from : ℕ) (bytes payload : List ℕ) (header : Header)
    (m : SlotMedia)
    → from ≡ slot_port k.rooms.limits r.slot → bytes ≡ header_bytes plain header ++ payload →
    payload ≡ map (byte_of to.law) (mixed_now k r)
    → header ≡ media_steps.header m (type_of to.law) (ssrc_of k r) → m ≡ media_at k.media r.slot
    → datagram to from bytes ≡ packet_now k r to
packet_is k r to from bytes payload header m port joined body headed kept =
    let head = headed ∙ ap (λ (x : SlotMedia). media_steps.header x (type_of to.law) (ssrc_of k r)) kept in
    rw joined (λ i. record {
      from = port i;
      to = record { address = to.address; port = to.port };
      bytes = header_bytes plain (head i) ++ body i;
    })

abbrev found : Record → Option Record
found r = Some r

pub found_is : (r s : Record) → found r ≡ found s → r ≡ s
found_is r s h = cc h

-- A default record for lookups past the end of a list.
abbrev pub nobody : Record
nobody = record { number = 0; context = 0; slot = 0; seat = 0; mode = Inactive; depth = 0; local = None; remote = None }

one_of : {A B : Type 0} (f : A → Option B) (x : A) (o : Option B) → f x ≡ o → filter_map f (x ∷ []) ≡ option_to_list o
one_of f x (Some y) e = rw e refl
one_of f x None e = rw e refl

-- Mapping one more item with f appends the item's result, or nothing if f returns no result.
pub one_more : {A B : Type 0} (f : A → Option B) (xs : List A) (k : ℕ) (d : A) → k < length xs →
    filter_map f (take (k + 1) xs) ≡ filter_map f (take k xs) ++ option_to_list (f (get_or xs k d))
one_more f xs k d lt =
    let x = get_or xs k d in
    ap (filter_map f) (take_more xs k d lt)
    ∙ filter_map-append f (take k xs) (x ∷ [])
    ∙ ap (λ (ys : List _). filter_map f (take k xs) ++ ys) (one_of f x (f x) refl)
