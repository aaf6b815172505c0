-- Writing the parts of a whole stream one after another.
use Rattle.std.proofs.Common.{◌≡◌, ℕ, List, ◌∷◌, ◌++◌, Option, ap, append_assoc, codes}
use Rattle.mg_sdp.specs.declared.chosen.Chosen.{Chosen}
use Rattle.mg_reply.specs.declared.control.Control.{Control}
use Rattle.mg_reply.specs.declared.media.Media.TheVariants.{Whole}
use Rattle.mg_reply.specs.aids.Draft.{Drafted, drafted}
use Rattle.mg_reply.specs.Listed.{listed, grouped}
use Rattle.mg_reply.specs.Media.{control_text, local_text, remote_text, optional, reported_stream}
use Rattle.mg_reply.proofs.DraftLemmas.{drafted-drafted}
use Rattle.mg_reply.proofs.ListedLemmas.{listed-append}

whole_is : (a : List ℕ) (xs ys : List (List ℕ)) →
    (((codes "{" ++ a) ++ listed (codes ",") xs) ++ listed (codes ",") ys) ++ codes "}" ≡ grouped (a ∷ (xs ++ ys))
unfolding listed
whole_is a xs ys = simp (listed-append xs ys, append_assoc)

pub whole_parts : (d : Drafted) (control : Control) (local remote : Option Chosen) →
    drafted (drafted (drafted (drafted (drafted d (codes "{")) (control_text control))
    (listed (codes ",") (optional local_text local))) (listed (codes ",") (optional remote_text remote))) (codes "}")
    ≡ drafted d (grouped (reported_stream (Whole control local remote)))
whole_parts d control local remote =
    simp (drafted-drafted) (ap (drafted d) (whole_is (control_text control) (optional local_text local)
    (optional remote_text remote)))

pub ruleset whole = (whole_parts)
