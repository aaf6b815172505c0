use Rattle.mg_engine.proofs.Common.{◌∷◌, ◌++◌, [], List, map, sym, ap, subst, ◌∙◌, range_with_len, byte_of, nearest_sample, view, Share, EngineState, heard_now, with_mixes, AreShared, All-contains, IsShared, packet_at, shares_in, place_of}
use Rattle.mg_engine.proofs.MaskLemmas.{payload_is_on}
use Rattle.mg_engine.proofs.ShareLemmas.{still_shared, now_shared}
use Rattle.mg_engine.proofs.engine.Engine.put_heard.Goals as goal

pub open-talkers-requires : goal.open-talkers-requires
open-talkers-requires c =
    let l = c.args.listener.now in
    (c.self.invariant.members.each l.number l c.args.place
    (rw (← c.self.view_is) at c.requires.place)).held

pub lend-requires-clause-there : goal.lend-requires-clause-there
lend-requires-clause-there c =
    let k = view c.self.inside in
    let room = c.args.place.room in
    let outbox = c.args.outbox.now.items in
    let share : Share = record { talkers = c.open-talkers.result.now; law = c.args.law; packet = c.in-Some.packet } in
    let lent = rw (← c.self.view_is) at c.requires.shared in
    (All-contains (IsShared k outbox room) (shares_in k.shares room) share (lent room) c.in-Some.ensures.found).sent

pub returns-in-Some-clause-put : goal.returns-in-Some-clause-put
returns-in-Some-clause-put c =
    let k = view c.self.inside in
    let l = c.args.listener.now in
    let p = c.args.place in
    let outbox = c.args.outbox.now.items in
    let here = ap (λ (x : EngineState). place_of x.rooms l) c.self.view_is ∙ c.requires.place.place in
    let share : Share = record { talkers = c.open-talkers.result.now; law = c.args.law; packet = c.in-Some.packet } in
    let lent = rw (← c.self.view_is) at c.requires.shared in
    let is = All-contains (IsShared k outbox p.room) (shares_in k.shares p.room) share (lent p.room)
    c.in-Some.ensures.found in
    record {
      last = packet_at outbox c.in-Some.packet;
      all = c.lend.ensures.value;
      same = is.payload
          ∙ sym (payload_is_on k l p c.open-talkers.result.now here c.open-talkers.ensures.kept c.args.law)
          ∙ ap (λ (x : EngineState). map (byte_of c.args.law)
          (map (λ i. nearest_sample (heard_now x l i)) (range_with_len 0 160))) c.self.view_is;
    }

pub returns-in-Some-clause-shared : goal.returns-in-Some-clause-shared
returns-in-Some-clause-shared c sent e = still_shared c.args.self.now c.args.outbox.now.items sent c.requires.shared

pub returns-clause-put : goal.returns-clause-put
returns-clause-put c =
    let put = c.push_payload.ensures.put in
    record {
      last = put.last;
      all = put.all;
      same = put.same ∙ ap (map (byte_of c.args.law)) c.mix-frame.ensures.value ∙ ap (λ (x : EngineState). map (byte_of c.args.law)
          (map (λ i. nearest_sample (heard_now x c.args.listener.now i)) (range_with_len 0 160))) c.self.view_is;
    }

pub returns-clause-shared : goal.returns-clause-shared
returns-clause-shared c sent e =
    let k = view c.self.inside in
    let l = c.args.listener.now in
    let p = c.args.place in
    let outbox = c.args.outbox.now.items in
    let here = ap (λ (x : EngineState). place_of x.rooms l) c.self.view_is ∙ c.requires.place.place in
    let lent = rw (← c.self.view_is) at c.requires.shared in
    let share : Share = record { talkers = c.open-talkers.result.now; law = c.args.law; packet = c.len-packet.result } in
    let work = c.mix-frame.new.self.sums.work in
    let payload = e ∙ sym (ap (λ (x : EngineState). map (byte_of c.args.law)
    (map (λ i. nearest_sample (heard_now x l i)) (range_with_len 0 160))) c.self.view_is) ∙
    payload_is_on k l p c.open-talkers.result.now here c.open-talkers.ensures.kept c.args.law in
    let now = now_shared k outbox sent work p.room share c.put.ensures.there c.len-packet.ensures.value payload lent in
    subst (λ (x : EngineState). AreShared x (outbox ++ sent ∷ [])) (sym c.mix-frame.ensures.same)
    (subst (λ (s : List (List Share)). AreShared (with_mixes k work s) (outbox ++ sent ∷ []))
    (sym c.put.ensures.value) now)

pub returns-clause-work : goal.returns-clause-work
returns-clause-work c = rw (← c.self.view_is) c.mix-frame.ensures.work
