use Rattle.std.proofs.Common.{◌≡◌, ◌≤◌, ◌++◌, ℕ, length, length-drop, take, drop, List, sym, ap, ◌∙◌, arith}
use Rattle.std.proofs.Math.Seq.{drop-append_seam}
use Rattle.std.proofs.lemmas.List.{append-nil, drop_all, length-take-le}
use Rattle.mg_rtp.proofs.writing.write_payload.Goals as goal

-- After writing 160 bytes from index 12 on, a packet of 172 bytes holds exactly these bytes there.
written : (xs ys : List ℕ) → length xs ≡ 172 → drop 12 (take 12 xs ++ (ys ++ drop 160 (drop 12 xs))) ≡ ys
written xs ys long =
    let front : length (take 12 xs) ≡ 12 = length-take-le 12 xs (omega arith) in
    let past : length (drop 12 xs) ≤ 160 = omega (arith, length-drop 12 xs) in
    ap (λ (n : ℕ). drop n (take 12 xs ++ (ys ++ drop 160 (drop 12 xs)))) (sym front)
    ∙ drop-append_seam (take 12 xs) (ys ++ drop 160 (drop 12 xs))
    ∙ ap (λ (zs : List ℕ). ys ++ zs) (drop_all 160 (drop 12 xs) past)
    ∙ append-nil ys

pub returns : goal.returns
returns c = record {
  payload = written c.args.bytes.now c.copy_from_slice.new.self c.told-bytes ∙
      c.copy_from_slice.ensures.after;
}
