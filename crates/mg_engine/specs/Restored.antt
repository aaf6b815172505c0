-- A restored gateway: it has everything that it had before, except for the speech that it received.
use Rattle.std.specs.Prelude.{map}
use Rattle.mg_playout.specs.Playout.{PlayList, depth_of, first_list}
use Rattle.mg_playout.specs.Places.{empty_places}
use Rattle.mg_sums.specs.Samples.{silence}
use Rattle.mg_engine.specs.Apart.{but_received}
use Rattle.mg_engine.specs.Gateway.{Gateway, TerminationMedia}

-- An empty play list of the same depth.
abbrev pub emptied : PlayList → PlayList
emptied list = record first_list { places = empty_places (depth_of list) }

-- The media as if the termination had received nothing: the play list is empty, the frame is silent, and no packet was
-- received. The ticks and the packets sent are kept.
abbrev pub media_without_speech : TerminationMedia → TerminationMedia
media_without_speech s =
    record s { play = emptied s.play; frame = silence; stats = but_received s.stats }

abbrev pub without_speech : Gateway → Gateway
without_speech w = record w { media = map media_without_speech w.media }
