use Rattle.packets.proofs.Arguments.{some_weaker}
use Rattle.packets.proofs.Lists.{text-sized, text_unsent, blob-sized, blob_unsent}
use Rattle.packets.proofs.entries.entry_size.Goals as goal

pub returns-in_ok-part-in-Text : goal.returns-in_ok-part-in-Text
returns-in_ok-part-in-Text c =
    let at = c.in_ok-part-in-Text.ensures in
    some_weaker c.text_size.result
    (text_unsent _ _ _ _ c.in-Text.is at)
    (λ n h. text-sized _ _ _ _ n c.in-Text.is at h.0 h.1)
    c.text_size.ensures

pub returns-in_ok-part-in-Blob : goal.returns-in_ok-part-in-Blob
returns-in_ok-part-in-Blob c =
    let at = c.in_ok-part-in-Blob.ensures in
    some_weaker c.blob_size.result
    (blob_unsent _ _ _ _ c.in-Blob.is at)
    (λ n h. blob-sized _ _ _ _ n c.in-Blob.is at h.0 h.1)
    c.blob_size.ensures
