-- The device's state as C holds it: numbers in place of the enum, and bytes in place of the flags; and back.
use Rattle.std.specs.Prelude.{ℕ, ◌≡◌, Bool, true, false, not, ◌&&◌, ◌||◌, cond, leb, eqb}
use Rattle.reception.specs.Cases.{code_of, first_of, reception_of}
use Rattle.state.specs.declared.Device.{Device}
use Rattle.image.specs.declared.Image.{Image}

-- a flag is a byte, 0 or 1
abbrev pub flag_of : Bool → ℕ
flag_of b = cond b 1 0

-- THE IMAGE of a device
unfoldable pub image_of : Device → Image
image_of d =
    record {
      state = code_of d.reception;
      first = first_of d.reception;
      spoiled = flag_of d.spoiled;
      times = d.held.times;
      opened = flag_of d.tables.load.opened;
      network = d.tables.load.network;
      over = flag_of d.tables.load.kept.over;
      any = flag_of d.tables.load.any;
      count = d.count;
      length = d.held.response.length;
      liveused = d.tables.live.used;
      liverecords = d.tables.live.records;
      loadused = d.tables.load.kept.used;
      loadrecords = d.tables.load.kept.records;
      payload = d.held.response.payload;
      version = d.tables.load.version;
      versions = d.tables.versions;
      store = d.store;
    }

-- ---- and back

-- a number that stands for a state, with a first check byte only where one is held, and flags that are 0 or 1
unfoldable pub is_image : Image → Bool
is_image i =
    leb i.state 4
    && ((eqb i.state 4 || eqb i.first 0)
    && (leb i.spoiled 1 && (leb i.opened 1 && (leb i.over 1 && leb i.any 1))))

-- bytes that are no image are taken for a device that no call accepts: more payload bytes placed than there are places
abbrev pub count_in : Bool → ℕ → ℕ
count_in true n = n
count_in false n = 4096

-- THE DEVICE of an image
unfoldable pub device_of : Image → Device
device_of i =
    record {
      reception = reception_of i.state i.first;
      spoiled = not (eqb i.spoiled 0);
      count = count_in (is_image i) i.count;
      store = i.store;
      held = record { response = record { payload = i.payload; length = i.length }; times = i.times };
      tables = record {
        versions = i.versions;
        live = record { used = i.liveused; records = i.liverecords };
        load = record {
          opened = not (eqb i.opened 0);
          network = i.network;
          version = i.version;
          kept = record { used = i.loadused; records = i.loadrecords; over = not (eqb i.over 0) };
          any = not (eqb i.any 0);
        };
      };
    }

-- ---- the conversions

abbrev pub IsImageOf : Device → Image → Type 0
IsImageOf device image = image ≡ image_of device

abbrev pub IsDeviceOf : Image → Device → Type 0
IsDeviceOf image device = device ≡ device_of image
