-- What a terminal says of itself (docs/PROFILE.md, "Other messages").
use Rattle.std.specs.Prelude.{ℕ}
use Rattle.vt_node.specs.declared.profile.Profile.{Profile}

-- the version of the standard
abbrev pub VERSION : ℕ
VERSION = 3

-- the answers of a terminal that is given no others
abbrev pub standard : Profile
standard = record {
  memory = 1048576;
  soft_key_width = 64;
  soft_key_height = 64;
  virtual_soft_keys = 64;
  physical_soft_keys = 6;
  small_fonts = 0x7F;
  large_fonts = 0x7F;
  font_styles = 0;
  boot_time = 0;
  graphic_type = 2;
  hardware = 0;
  width = 480;
  height = 480;
}
