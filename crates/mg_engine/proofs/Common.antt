-- Names that most proofs of this crate use, exported from one place.
pub use Rattle.std.proofs.Common.{Bool, Err, IsTrue, List, None, Ok, Option, Result, Some, [], ap, arith, cond, drop, eqb, false, find, get_or, if◌then◌else◌, inl, inr, length, length-append, map, min, nat_lt, not, pos, refl, replicate, rules, set, subst, suc, sym, take, take-append-drop, true, w32, zero, ℕ, ℤ, ◌%◌, ◌&&◌, ◌*◌, ◌++◌, ◌+ℤ◌, ◌+◌, ◌-◌, ◌<◌, ◌==◌, ◌^◌, ◌||◌, ◌∙◌, ◌∷◌, ◌≡◌, ◌≢◌, ◌≤◌}
pub use Rattle.mg_engine.specs.Apart.{AgreeOutside, IsPortAmong, SamePackets, but_received, unless_among, without_arrivals}
pub use Rattle.mg_engine.specs.Arrival.{Arrived, Takes, arrived, at_port, frame_placed, taken, taken_at}
pub use Rattle.mg_engine.specs.Config.{HasControlPort, limits_of}
pub use Rattle.mg_engine.specs.Flow.{has, may_hear}
pub use Rattle.mg_engine.specs.Gateway.{Apply, ContextEdit, Enter, Gateway, Leave, TerminationMedia, context_of, frame_of, media_of, mode_of, new_media, numbers_of}
pub use Rattle.mg_engine.specs.Isolation.{IsolatedAreNotHeard, NoneHearsItself, OwnSpeechChangesNoPacket, PacketsDependOnHeard, PayloadsAreMixes, UnheardChangesNoPacket, hears_itself, leaves_isolated, progress_of, replayed, with_frame}
pub use Rattle.mg_engine.specs.aids.Media.{SlotMedia, idle}
pub use Rattle.mg_engine.specs.Mix.{heard, is_loopback, mix, mixed, part_of_mix, part_of_total, played_sample, total, total_at}
pub use Rattle.mg_engine.specs.Outcome.{added, done_with, existing_context, media_with, media_without, modified, moved, subtracted, tuned}
pub use Rattle.mg_engine.specs.aids.Place.{IsOnPlace, IsOnSeat, member_place, place_of, seated_place}
pub use Rattle.mg_engine.specs.aids.Stands.{EngineState, IsMediaOf, IsOutcome, ShareContext, StandsFor, media_at}
pub use Rattle.mg_engine.specs.Steps.{counted_up, play_after, received, transmitted}
pub use Rattle.mg_engine.specs.Tick.{after_tick, all_ended, all_played, concealed_in_tick, conceals, header_of, packet, packet_of, packets, played, sends_at, sent, sent_to, type_of}
pub use Rattle.mg_engine.specs.aids.Ticks.{after_ticks, concealed_in_ticks}
pub use Rattle.mg_engine.specs.Triples.{check_triple, check_triples, is_barred, matched, names_others, with_triples}
pub use Rattle.mg_engine.specs.Work.{RisesAtMost, sending_work, silenced_for, tick_work}
pub use Rattle.mg_engine.specs.aids.Agreement.{AgreementIsMutual, EndsAlike, OneArrivalKeepsAgreement, SameArrivalKeepsAgreement, SameEditsKeepAgreement, SameStatsButReceived, SameTickKeepsAgreement}
pub use Rattle.mg_engine.specs.aids.Found.{conceals_in, context_in, frame_in, has_destination, mode_or_inactive, packet_to, taken_by}
pub use Rattle.mg_engine.specs.aids.Joined.{AreJoined, SetsRow, room_for, room_of_row}
pub use Rattle.mg_engine.specs.aids.MediaSteps.{frame_played, header, initial_media, is_concealing, slot_ended, slot_passed, slot_placed, slot_played, slot_ticked, slot_tuned}
pub use Rattle.mg_engine.specs.aids.Members.{HasMembers}
pub use Rattle.mg_engine.specs.aids.Placing.{frame_placed_at}
pub use Rattle.mg_engine.specs.aids.Playing.{AreApart, HasPassed, HaveTicked, IsIdleEngine, IsIdleSlot, IsPlayed}
pub use Rattle.mg_engine.specs.aids.Seating.{AreSeated, index_of, place_count, slot_at}
pub use Rattle.mg_engine.specs.aids.Sending.{IsEnded, PlacedAt, addressed, flows_between, flows_now, heard_now, is_silenced_between, mix_now, mix_work_now, mixed_now, packet_now, packets_now, part_now, sample_at, sending_work_now, silenced_now, slot_sends, with_mixes}
pub use Rattle.mg_engine.specs.aids.Shares.{AreShared, IsShared, heard_on, is_seated_in, one_more, packet_at, payload_of, payload_on, shares_in, sits_among, with_share}
pub use Rattle.mg_engine.specs.aids.Triples.{AreMatched, IsMatched, IsRoomOf, IsSeated, Matches}
pub use Rattle.mg_engine.specs.aids.Whole.{IsWholeEngine}
pub use Rattle.mg_engine.specs.declared.config.Config.{Config}
pub use Rattle.mg_engine.specs.declared.datagram.Datagram.{Datagram}
pub use Rattle.mg_engine.specs.declared.engine.Engine.TheInside.{Inside}
pub use Rattle.mg_engine.specs.declared.engine.Engine.TheView.{view}
pub use Rattle.mg_engine.specs.declared.share.Share.{Share}
pub use Rattle.mg_engine.specs.declared.taken.Taken.{Taken}
pub use Rattle.mg_engine.specs.declared.topology_triple.TopologyTriple.{TopologyTriple}
pub use Rattle.mg_flow.specs.Place.{are_together, is_same_place}
pub use Rattle.mg_flow.specs.aids.Place.{sibling_place}
pub use Rattle.mg_flow.specs.aids.Place.{IsWithinLimits}
pub use Rattle.mg_flow.specs.aids.Table.{KeepsOthers, KeepsPlaces, RoomFlows, SetsPlace, flows, hears, hears_after, holds, listens_at, room_at, talks_at}
pub use Rattle.mg_flow.specs.declared.place.Place.{Place}
pub use Rattle.mg_g711.specs.Law.{byte_of}
pub use Rattle.mg_playout.specs.Played.{is_concealed, sound_of}
pub use Rattle.mg_playout.specs.Playout.{PlayList, is_idle, placed, ticked, ticked_in}
pub use Rattle.mg_rooms.proofs.CountLemmas.{count-cons, count-found, count-push, counted_any, find-change_other, find-found, find-none, find-push_none, find-push_other, one, count-zero}
pub use Rattle.mg_rooms.proofs.LastLemmas.{add_lasts, entered_terminations, move_lasts, next_is_new, record_replaced, subtract_lasts}
pub use Rattle.mg_rooms.proofs.OutcomeLemmas.{Enters, add_done, bind_ok, modify_done, move_done, subtract_done}
pub use Rattle.mg_rooms.proofs.SoundLemmas.{sound_if}
pub use Rattle.mg_rooms.specs.Changes.{change, inserted, replaced}
pub use Rattle.mg_rooms.specs.Consistent.{IsConsistent, IsTermination}
pub use Rattle.mg_rooms.specs.aids.Lasting.{Lasts, LeavesOthers}
pub use Rattle.mg_rooms.specs.Limits.{slot_port}
pub use Rattle.mg_rooms.specs.aids.Member.{ExistsAs}
pub use Rattle.mg_rooms.specs.Outcome.{add, is_number, modify, move_to, subtract}
pub use Rattle.mg_rooms.specs.Registry.{Registry, context_at, holder_of, members_at, record_at, start_of}
pub use Rattle.mg_rooms.specs.aids.Sound.{IsMember}
pub use Rattle.mg_rooms.specs.aids.Sound.{IsSound}
pub use Rattle.mg_rooms.specs.declared.context.Context.{Context}
pub use Rattle.mg_rooms.specs.declared.limits.Limits.{Limits}
pub use Rattle.mg_rooms.specs.declared.member.Member.{Member}
pub use Rattle.mg_rooms.specs.declared.record.Record.{Record}
pub use Rattle.mg_rooms.specs.declared.settings.Settings.{Settings}
pub use Rattle.mg_rooms.specs.declared.target.Target.{Target}
pub use Rattle.mg_rtp.specs.Header.{header_bytes, plain}
pub use Rattle.mg_rtp.specs.Reading.{IsPacketReading, Reading}
pub use Rattle.mg_rtp.specs.declared.header.Header.{Header}
pub use Rattle.mg_sdp.specs.declared.chosen.Chosen.{Chosen}
pub use Rattle.mg_sums.proofs.HeardLemmas.{map_agree}
pub use Rattle.mg_sums.proofs.SumLemmas.{sum_of-cons, sum_of-filter, sum_of-map, sum_of-nil, sum_of-none, sum_of-plus, sum_of-same, sum_of-ones, sum_of-agree}
pub use Rattle.mg_sums.specs.Samples.{frame_or_silence, nearest_sample, silence, sum_of}
pub use Rattle.mg_sums.specs.Sums.{SumsState}
pub use Rattle.mg_sums.specs.aids.Sums.{frame_of_row, total_of}
pub use Rattle.mg_topology.specs.Mask.{has_seat, seat_limit}
pub use Rattle.mg_topology.specs.Triple.{Overlaps, is_oneway, mentions, overlaps, word_of}
pub use Rattle.mg_topology.specs.declared.triple.Triple.{Triple}
pub use Rattle.mg_words.specs.Limits.{context_limit, last_termination, member_limit, termination_limit}
pub use Rattle.mg_words.specs.Mode.{listens, talks}
pub use Rattle.mg_words.specs.ResultSteps.{◌>>=◌}
pub use Rattle.mg_words.specs.declared.association.Association.TheVariants.{Bothway, Isolate, Oneway}
pub use Rattle.mg_words.specs.declared.error_number.ErrorNumber.{ErrorNumber}
pub use Rattle.mg_words.specs.declared.error_number.ErrorNumber.TheVariants.{IllegalCombination}
pub use Rattle.std.proofs.Math.Bool.{or-false, and-false, or_comm}
pub use Rattle.std.proofs.Math.Seq.{get_or-append_seam, set-append_seam, take-append_seam}
pub use Rattle.std.proofs.lemmas.Bool.{and_from, and_parts, and_right, cases_Bool, cases_eq, eq-eqb, eqb-false, eqb-true, false_from_ne_true, lt-ltb, ne_eqb, true≢false, not-false}
pub use Rattle.std.proofs.lemmas.Bool.Decides.{nat_tests}
pub use Rattle.std.proofs.lemmas.Int.{ints, to_z-of_z}
pub use Rattle.std.proofs.lemmas.List.{drop_more, get_or-append-add, get_or-map, get_or-replicate, get_or-set_other, get_or-set_same, get_or_default, length-map, length-replicate, length-set, length_push, map-append, map-id, same_lists, set-set, take_more, get_or_append_left}
pub use Rattle.std.proofs.lemmas.List.Elements.{All-cons, All-contains, All-map, All-nil, All-push, All-weaker, Contains-append_left, Contains-append_right, filter_map-append, filter_passes, All-head, All-tail}
pub use Rattle.std.proofs.lemmas.List.Folds.{list_any_at}
pub use Rattle.std.proofs.lemmas.List.FromFn.{get_or-map-range_with_len, get_or-range_with_len, length-map-range_with_len, length-range_with_len}
pub use Rattle.std.proofs.lemmas.List.Sums.{sum_by-cons, sum_by_more}
pub use Rattle.std.proofs.lemmas.Option.{IfSome_then, same_Some, slice_get-get_or}
pub use Rattle.std.proofs.lemmas.Simd.{map-map}
pub use Rattle.std.specs.Int.{from_bool}
pub use Rattle.std.specs.List.{cons_option, list_all, list_any, range_with_len, refill, slice_get}
pub use Rattle.std.specs.Option.{option_map, option_map_or}
pub use Rattle.std.specs.Prelude.{All, AllPairs, Any, Contains, IfSome, IsFalse, IsSome, count_by, filter, filter_map, is_some, option_to_list, slice_index_or, sum_by, ◌↔◌}
