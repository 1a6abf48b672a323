-- What programs and containers hold whose bytes are borrowed.
use Rattle.std.specs.Prelude.{◌≡◌, ◌+◌, ◌*◌, ◌/◌, ◌^◌, ◌<◌, ◌≤◌, length}
use Rattle.blob_codec.specs.Grammar.{Program, Container}
use Rattle.blob_codec.specs.Reading.{entries_of}
use Rattle.blob_codec.specs.declared.program.Program.TheInside as program
use Rattle.blob_codec.specs.declared.container.Container.TheInside as container

-- the program whose parts are borrowed
abbrev pub content_of : program.Inside → Program
content_of p = record {
  table = entries_of p.table_len p.width p.entries.now;
  width = p.width;
  code = record { bytes = p.code.now; mask = p.mask.now };
}

-- the table's bytes are as many as its entries take, and the mask has a bit for each byte of the code
pub record IsProgramBorrowed (p : program.Inside) : Type 0 where
  pub width : p.width ≤ 8
  pub entries : length p.entries.now ≡ p.table_len * p.width
  pub mask : length p.mask.now ≡ (length p.code.now + 7) / 8

-- the container whose parts are borrowed
abbrev pub held_by : container.Inside → Container
held_by c = record {
  read_only = c.read_only.now;
  writable = c.writable.now;
  zero_pages = c.zero_pages;
  stack = c.stack;
  program = c.program;
}

-- each field fits the bytes that it takes
pub record IsContainerBorrowed (c : container.Inside) : Type 0 where
  pub read_only : length c.read_only.now < 2 ^ 24
  pub writable : length c.writable.now < 2 ^ 24
  pub zero_pages : c.zero_pages < 2 ^ 16
  pub stack : c.stack < 2 ^ 24
