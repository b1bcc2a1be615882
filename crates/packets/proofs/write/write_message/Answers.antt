use Rattle.std.proofs.Common.{◌++◌, take, drop, sym, ap, ◌∙◌, subst, arith}
use Rattle.std.proofs.lemmas.Option.{MatchOption-at_some}
use Rattle.std.proofs.lemmas.List.{take_at}
use Rattle.packets.specs.Osc.{Encoding}
use Rattle.packets.specs.Encode.{encode}
use Rattle.packets.specs.Write.{content_of}
use Rattle.packets.proofs.Encodings.{encoding-same, encoding_read}
use Rattle.packets.proofs.Lists.{encode-length, three_puts}
use Rattle.packets.proofs.write.write_message.Goals as goal

pub put_text-tags-requires : goal.put_text-tags-requires
put_text-tags-requires c =
    let got = MatchOption-at_some _ _ _ c.in_ok-size.ensures.ok_part c.message_size.ensures in
    let room = c.if-is_short.ensures in
    omega (arith, encode-length c.args.address.now c.args.lent.now c.args.entries.now)

pub put_tags-fields-requires : goal.put_tags-fields-requires
put_tags-fields-requires c =
    let got = MatchOption-at_some _ _ _ c.in_ok-size.ensures.ok_part c.message_size.ensures in
    let room = c.if-is_short.ensures in
    omega (arith, encode-length c.args.address.now c.args.lent.now c.args.entries.now, c.put_text-tags.ensures.end)

pub put_fields-requires : goal.put_fields-requires
put_fields-requires c =
    let got = MatchOption-at_some _ _ _ c.in_ok-size.ensures.ok_part c.message_size.ensures in
    let n = encode-length c.args.address.now c.args.lent.now c.args.entries.now in
    let short = got.2.short in
    let room = c.if-is_short.ensures in
    record { inside = got.0; room = omega (arith, c.put_text-tags.ensures.end, c.put_tags-fields.ensures.end); short = omega arith }

pub returns : goal.returns
returns c =
    let got = MatchOption-at_some _ _ _ c.in_ok-size.ensures.ok_part c.message_size.ensures in
    let room = c.if-is_short.ensures in
    let m = content_of c.args.address.now c.args.lent.now c.args.entries.now in
    let all = three_puts c.args.address.now c.args.lent.now c.args.entries.now _ _ _ _ _ _ c.put_text-tags.ensures.after c.put_text-tags.ensures.end c.put_tags-fields.ensures.after c.put_tags-fields.ensures.end c.put_fields.ensures.after (omega arith) in
    let bytes = all ∙ ap (λ n. encode m ++ drop n c.args.out.now) (sym got.1) in
    let front = ap (take c.in_ok-size.size) bytes ∙ take_at (encode m) _ c.in_ok-size.size (sym got.1) in
    let lies = subst (Encoding m) (sym front) got.2 in
    record { made = record { placed = got.0; len = got.1; bytes = bytes; means = record { encoding = lies; only = λ k l. encoding-same k m _ l lies } }; read = encoding_read m _ lies }
