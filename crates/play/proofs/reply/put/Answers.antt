use Rattle.std.proofs.Common.{◌≡◌, ◌-◌, [], length, take, drop, ap, ◌∙◌, arith}
use Rattle.std.proofs.lemmas.List.{length-drop, take_rest}
use Rattle.std.proofs.lemmas.Result.{MatchResult-at_ok}
use Rattle.packets.specs.Write.{content_of}
use Rattle.packets.proofs.Encodings.{encoding-same}
use Rattle.play.proofs.Framing.{done_unless, never_refused, framed_is, framed-length}
use Rattle.play.proofs.reply.put.Goals as goal

pub unwrap-size-requires : goal.unwrap-size-requires
unwrap-size-requires c =
    let n : length (take (length c.args.out.now - 4) (drop 4 c.args.out.now)) ≡ length c.args.out.now - 4 = ap length (take_rest c.args.out.now 4) ∙ length-drop 4 c.args.out.now in
    done_unless _ _ _ c.write_message.ensures.made (λ e h. never_refused _ _ _ _ _ e h c.requires.placed c.requires.encodes (omega arith))

pub returns : goal.returns
returns c =
    let m = content_of c.args.address.now [] c.args.entries.now in
    let got = MatchResult-at_ok _ _ _ c.unwrap-size.ensures c.write_message.ensures.made in
    let size = got.len in
    let n = framed-length m in
    record {
      len = omega arith;
      bytes = framed_is m _ _ _ _ (omega arith) (c.copy_from_slice.ensures.after ∙ c.size_bytes.ensures) size got.bytes;
      means = record { encoding = c.requires.encodes; only = λ k l. encoding-same k m _ l c.requires.encodes };
    }
