use Rattle.telling.proofs.rows.bucket_lines.Goals as goal

pub page_lines-requires : goal.page_lines-requires
page_lines-requires c = let w = c.requires.0 in rw c.page_at.ensures (record { rules = w.rules; slot = w.slot; room = c.requires.1 })
