-- Names that most proofs of this crate use, exported from one place.
pub use Rattle.std.proofs.Common.{All, Bool, Err, IfOk, IfSome, IsSome, IsTrue, List, None, Ok, OnErr, Option, Result, Some, [], ap, arith, cond, eqb, false, find, get_or, inl, inr, is_none, length, length-append, nat_le, nat_lt, not, ok_or, option_and_then, option_map, option_to_list, refl, replicate, rules, set, slice_get, subst, suc, sym, take, true, unwrap_or, vec_len, zero, ℕ, ◌&&◌, ◌++◌, ◌+◌, ◌<◌, ◌==◌, ◌||◌, ◌↔◌, ◌∙◌, ◌∷◌, ◌≡◌, ◌≤◌, ◌⊎◌}
pub use Rattle.mg_rooms.specs.Changes.{change, left, removed, with_members}
pub use Rattle.mg_rooms.specs.Consistent.{AreContexts, IsConsistent, IsContext, IsTermination}
pub use Rattle.mg_rooms.specs.Members.{without}
pub use Rattle.mg_rooms.specs.Outcome.{member, named, new_context, new_slot}
pub use Rattle.mg_rooms.specs.Registry.{Registry, context_at, free_room, free_seat, free_slot, members_at, record_at}
pub use Rattle.mg_rooms.specs.aids.Found.{members_of}
pub use Rattle.mg_rooms.specs.aids.Order.{has_key, in_order, passes_at}
pub use Rattle.mg_rooms.specs.aids.Tables.{registry_of}
pub use Rattle.mg_rooms.specs.declared.context.Context.{Context}
pub use Rattle.mg_rooms.specs.declared.limits.Limits.{Limits}
pub use Rattle.mg_rooms.specs.declared.place.EntryPlace.{EntryPlace}
pub use Rattle.mg_rooms.specs.declared.record.Record.{Record}
pub use Rattle.mg_rooms.specs.declared.settings.Settings.{Settings}
pub use Rattle.mg_rooms.specs.declared.target.Target.{Target}
pub use Rattle.mg_words.specs.declared.error_number.ErrorNumber.{ErrorNumber}
pub use Rattle.mg_words.specs.declared.error_number.ErrorNumber.TheVariants.{NoContextLeft}
pub use Rattle.mg_words.specs.declared.limits.TheConstants.{CONTEXT_LIMIT, LAST_CONTEXT, MEMBER_LIMIT}
pub use Rattle.std.proofs.lemmas.Bool.{cases_Bool, eq-eqb, eqb-true, le-leb, le-ltb, lt-leb, lt-ltb, ltb-true, ne_eqb}
pub use Rattle.std.proofs.lemmas.Option.{slice_get_read}
pub use Rattle.std.specs.List.{AllByRecursion, count_by, list_any, position_from, range_with_len}
