-- `source::Source::scan` meets its contract.
use Rattle.source.proofs.Scanning.{section-scans}
use Rattle.source.proofs.Streaming.{kiss_scans, bits-scans}
use Rattle.source.proofs.Source.scan.Goals as goal

pub returns-in-Recording : goal.returns-in-Recording
returns-in-Recording c = section-scans c.in-Recording.is c.scan-scanned.ensures c.told.ensures

pub returns-in-Kiss : goal.returns-in-Kiss
returns-in-Kiss c = kiss_scans c.in-Kiss.is c.scan-scanned-in-Kiss.ensures c.stream_told.ensures

pub returns-in-Bits : goal.returns-in-Bits
returns-in-Bits c = bits-scans c.in-Bits.is c.scan-scanned-in-Bits.ensures c.stream_told-in-Bits.ensures
